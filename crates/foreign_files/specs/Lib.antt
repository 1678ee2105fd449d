pub mod Foreign
pub mod Fronts
pub mod Standing
pub mod Headers
pub mod Clearing
pub mod Disagreeing
pub mod Acts
