pub mod Grids
pub mod Promises
pub mod Private
