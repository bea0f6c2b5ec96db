pub mod Tab
pub mod Same
