pub mod Turn
pub mod Passes
pub mod Benches
pub mod Promises
pub mod Gcd
