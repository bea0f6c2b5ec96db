pub mod Answers
pub mod Promises
pub mod Private
-- what the demands say of calls together
pub mod Demands
-- a shape as the block of an adjacent swap
pub mod Grouped
