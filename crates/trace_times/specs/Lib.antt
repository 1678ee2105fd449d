pub mod Keyed
pub mod Opens
