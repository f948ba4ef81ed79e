pub mod Readable
mod Texts
