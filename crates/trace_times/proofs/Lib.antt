pub mod KeyLemmas
pub mod OpenLemmas
