pub mod Simulating
pub mod Storing
