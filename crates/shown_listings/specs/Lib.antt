pub mod Ahead
pub mod Ends
pub mod Growth
pub mod Listings
pub mod Rows
pub mod Since
