pub mod Job
pub mod Private
