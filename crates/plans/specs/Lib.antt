pub mod Promise
pub mod Private
