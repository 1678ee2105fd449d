pub mod Events
pub mod Glances
pub mod Kinds
pub mod Messages
pub mod Shapes
pub mod Tuples
pub mod Words
pub mod Rows
