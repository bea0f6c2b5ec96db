-- the next place of a walk, without a remainder
pub mod Steps
-- the places that the passes pair, group by group
pub mod Passes
-- remainders of sums and products
pub mod Remainders
-- numbers that share no factor have inverses modulo each other
pub mod Inverse
-- the inverse of pass 2, and a walk over it in rising place
pub mod Source
