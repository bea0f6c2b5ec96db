-- a stretch of the buffer filled word by word or piece by piece, from either end
pub mod Filling
-- two runs that trade places word by word
pub mod Trading
-- what a call answers where the runs lie inside, and where they do not
pub mod Inside
-- scratch that was used and then zeroed is cleared
pub mod Cleared
-- any two outcomes coincide
pub mod OneOutcome
