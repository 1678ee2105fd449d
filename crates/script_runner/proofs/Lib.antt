pub mod Asking
pub mod Misplaced
pub mod Placing
pub mod Running
pub mod Through
pub mod Written
