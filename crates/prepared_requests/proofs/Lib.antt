pub mod AheadBegins
pub mod AheadImports
pub mod AheadSights
pub mod AheadStays
pub mod NamesLemmas
pub mod NamesLooking
pub mod Recorded
