pub mod Inputs
pub mod Layouts
