pub mod CountLemmas
mod EndsLemmas
pub mod FeedLemmas
mod KindLemmas
mod NameLemmas
mod StackLemmas
mod TableLemmas
pub mod TakenLemmas
