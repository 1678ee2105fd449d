pub mod Serving
pub mod Statuses
