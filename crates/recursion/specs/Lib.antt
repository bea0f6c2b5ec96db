pub mod Merge
pub mod Private
pub mod PrivateTiles
pub mod Promise
