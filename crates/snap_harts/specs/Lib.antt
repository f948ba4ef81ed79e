pub mod HartStates
pub mod Harts
pub mod Copy
