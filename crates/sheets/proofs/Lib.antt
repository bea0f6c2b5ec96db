-- the definitions computed at small cases
pub mod Bench
-- a number is read exactly where its decimal stands
pub mod Numbers
-- a line is read exactly where its text stands
pub mod Lines
-- what a verdict that went on says of those it was made of
pub mod Steps
-- a run of stores, and one store more
pub mod Stores
-- rows are read exactly where their text stands
pub mod Rows
-- a sheet is accepted exactly when it is the text of what it is answered with, whatever its second line is
pub mod Accepted
-- the second lines of a sheet and of a result sheet, and which of the two are accepted
pub mod SecondLines
-- exactly when a sheet is refused, with which number and at which place
pub mod Refused
-- the result sheet of 1,024 words has at most 16,384 bytes
pub mod Length
-- a refusal's number and place fit a line of a sheet
pub mod Bounds
