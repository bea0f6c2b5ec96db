-- one outcome
pub mod Once
-- wrong versions, refuted
pub mod Wrong
-- calls as a caller sees them
pub mod Calls
-- the writer for a release, and the texts of the writers
pub mod Writers
