-- the loop over the powers: where it starts, one power more, where it ends
pub mod Powers
-- what the count means for blocks, and that any two outcomes coincide
pub mod OneOutcome
