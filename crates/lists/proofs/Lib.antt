-- tabulated lists: what they hold, when two are equal, one store more
pub mod Tab
-- one computed test over a table, turned into the rule at each entry
pub mod Test
-- a test is decided, and two numbers compare, one way or the other
pub mod Decide
-- two facts of one result joined
pub mod Via
-- what is left of a list past its first entries
pub mod Front
-- a list filled from its front with the words of another
pub mod Copied
-- what proofs of every crate use, passed on by one module
pub mod Kit
-- words by their offsets
pub mod Words
-- a slice lent in parts, and the whole once they are back
pub mod Parts
