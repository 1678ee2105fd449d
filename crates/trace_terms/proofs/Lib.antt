pub mod Same
pub mod Texts
