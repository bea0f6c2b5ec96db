pub mod FirstOf
pub mod Conditions
pub mod Calls
pub mod Scratch
pub mod Promise
pub mod Refusal
