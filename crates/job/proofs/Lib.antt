-- what the reader's answer says of the sheet's meaning
pub mod Readings
-- no axis is longer than the block has words
pub mod Sizes
-- a chain on the block's part of the words
pub mod Parts
-- the promise of the job from what its calls promise
pub mod Done
-- any two outcomes of the job coincide
pub mod OneOutcome
