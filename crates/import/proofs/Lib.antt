pub mod Ends
pub mod Feeding
pub mod FragmentsLeft
pub mod Fronts
pub mod Giving
pub mod Marking
pub mod Parts
pub mod Skipping
