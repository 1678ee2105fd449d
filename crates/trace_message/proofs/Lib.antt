pub mod GlanceLemmas
pub mod KindLemmas
pub mod ShapeLemmas
pub mod WordLemmas
pub mod RowLemmas
