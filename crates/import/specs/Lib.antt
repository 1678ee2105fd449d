pub mod Incoming
pub mod Gathered
pub mod Parts
pub mod Marks
pub mod Importing
pub mod Beginning
