pub mod Stored
pub mod Simulated
