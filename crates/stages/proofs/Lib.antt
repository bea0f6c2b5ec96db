-- stores one after the other
pub mod Stores
-- a memory torn at the places of some stores
pub mod Torn
-- what a call leaves, stage by stage, and how many stores are enough
pub mod Calls
-- stops of which the order of stages alone is kept are made good
pub mod Stops
-- stores in rising place into one list, and what it then holds
pub mod Filled
-- the stages of lines can be begun again, and what the first words of one leave
pub mod Lines
-- the stages of lines, uncut: every line has moved, and scratch is cleared
pub mod Moves
-- how many stores are enough where stages come in blocks of one size
pub mod Blocks
-- one line of two words that change places, stopped at each kind of store
pub mod Examples
