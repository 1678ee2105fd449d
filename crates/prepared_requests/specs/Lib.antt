pub mod Ahead
pub mod AheadImport
pub mod Input
pub mod Names
pub mod NamesLooked
