pub mod Complaints
pub mod Faults
pub mod Kept
pub mod Statuses
