pub mod Stretch
pub mod Promises
