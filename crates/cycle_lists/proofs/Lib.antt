-- the loop over the offsets: where it starts, an offset passed over, a pair found, where it ends
pub mod Comparing
-- the promise from what the parts found
pub mod Judging
-- what the answer means, and that any two outcomes coincide
pub mod OneOutcome
-- the loops that move words along one cycle and along all
pub mod Carrying
