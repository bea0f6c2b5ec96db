-- the whole sheet from its steps, and what each reader answers then
pub mod FromSteps
-- rows from a line on, and what is stored of them
pub mod RowsFrom
-- lines 1 and 2, way out by way out
pub mod HeadLines
-- a line at the head of the bytes: its word, its fields, its LF
pub mod LineParts
-- what is read at the head of the bytes, by the byte that stands there
pub mod Heads
-- a run of fields, one field more or none
pub mod Runs
-- any two outcomes of a call coincide
pub mod OneOutcome
-- the reader's number is 0 exactly when the sheet is right
pub mod RightSheets
-- a result sheet is accepted exactly when it is right; where it is refused, the place is the first line at fault
pub mod RightResults
-- exactly when each reader answers a number other than 0, and with which place
pub mod Refused
