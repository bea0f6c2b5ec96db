-- a refused answer, an accepted one, and that any two that one promise allows coincide
pub mod Answers
-- what the checks tell where none holds
pub mod Accepted
-- readings, differences, delay and twice the offset fit 64 bits
mod Readings
-- a number taken through a run by a function of two
mod Through
-- any two outcomes that one promise of the desk allows coincide
pub mod OneOutcome
-- rounding, common frames and 20, by inequalities
pub mod Meanings
-- an offset of the offset call is never refused by 18 in frames, nor its frames in joining
pub mod Calls
-- a signed number by how far it lies above and below zero: sums, differences, order, tests, what 64 bits hold
pub mod Ends
-- division rounded towards minus infinity, by inequalities
pub mod Floor
-- an exchange of a run with no far reading
mod Exchanges
-- what is held of the first exchanges of a run, and what that decides between two paths
mod Held
-- 19 exactly when no usable exchange exists; what a caller knows of the part: usable, none smaller, accepted by the offset call
pub mod ChoiceMeanings
-- any two outcomes that the promise of choosing allows coincide, the place in memory too
pub mod ChoiceOutcome
-- what the checks of two runs tell where none holds
mod Runs
