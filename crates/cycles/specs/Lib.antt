pub mod Orbit
pub mod Sent
pub mod Turns
pub mod Cycles
pub mod Along
pub mod Private
