-- a run moved word by word, or in sixteens and more than is asked
pub mod OneRun
-- the runs one after the other
pub mod Runs
-- a range of runs in one loop
pub mod Ranges
-- what the checks tell where none holds
pub mod Accepted
-- rows closed up and words zeroed are the block without the column
pub mod Removed
-- removing and adding undo each other
pub mod Back
-- any two outcomes coincide, and freed room is always enough
pub mod OneOutcome
