-- the laws of `first_of`: 0 exactly when no condition holds, k exactly when k's is the first that holds
pub mod FirstOf
-- any two outcomes that one promise allows coincide
pub mod Promise
-- a test over the entries of a list
pub mod Some
-- what a condition that does not hold tells
pub mod Conditions
-- the laws of `first_of` hold of every call's list
pub mod Calls
-- what callers use of the need of scratch, and what clearing scratch leaves
pub mod Scratch
-- what the checks of an adjacent swap tell, and that any two outcomes of its promise coincide
pub mod Swap
-- a refusal is told by its number, an answer by the number that C sees of it
pub mod Numbers
