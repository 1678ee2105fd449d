pub mod Data
pub mod Equality
pub mod View
