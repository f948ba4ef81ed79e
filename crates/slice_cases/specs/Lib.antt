pub mod Turners
