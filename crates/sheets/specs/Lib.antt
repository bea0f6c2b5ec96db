-- a number, a field and a line printed
pub mod Print
-- what bytes read as
pub mod Read
-- the text of a sheet, of a result sheet and of a refusal
pub mod Sheet
-- what a sheet means, line by line
pub mod Meaning
-- a sheet that is right
pub mod Right
-- a sheet that is refused
pub mod Refused
-- the checks of a sheet's block
pub mod Checks
-- for private functions only: a block that a sheet may have
pub mod Private
