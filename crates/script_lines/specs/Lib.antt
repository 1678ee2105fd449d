pub mod EventFaults
pub mod Keywords
pub mod Lines
pub mod Reading
pub mod Spellings
pub mod Table
