-- rotation by exchanges of the shorter side
mod Rotations
-- words in front of and behind a cut, and runs merged half by half
pub mod Merges
-- a list in four parts of which the middle two change places
mod Four
-- a block cut in two by its rows
pub mod Cuts
-- one level of merge and of split
mod Halving
-- parts turned and merged, or split and turned, are the block turned
mod Turns
-- the exchange across the diagonal, tile by tile and band by band
mod Across
-- the exchange across the diagonal, word by word
mod Crossing
-- a run that is lent and comes back filled
pub mod Lending
-- a buffer that passes the checks is a block, and the outcomes that the promise allows
mod Lent
-- split undoes merge, and merge undoes split
pub mod Undo
-- any two outcomes that the promise allows coincide
pub mod OneOutcome
