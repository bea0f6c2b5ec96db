-- marks, one bit a place
pub mod Bits
-- mirrored places go along mirrored
pub mod Mirror
-- a cycle followed from its first place on: what the marks tell
pub mod Chasing
-- the chunks meanwhile
pub mod Places
-- the same by trades
pub mod Trades
-- cycle after cycle: the block is turned
pub mod Turned
-- any two outcomes coincide
pub mod OneOutcome
