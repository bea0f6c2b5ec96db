pub mod Columns
pub mod Promises
pub mod PrivateGap
pub mod Private
