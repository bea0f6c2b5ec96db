-- the digits of a number, counted and printed
pub mod Digits
-- texts put one behind the other
pub mod Puts
-- the lines of a result sheet, put and measured
pub mod Pages
-- a text written or not: the answer and the bytes
pub mod InFull
-- what the writers promise on each way out
pub mod Writes
-- the line of a refusal, and what its writer promises
pub mod RefusalLine
-- any two outcomes of a call coincide
pub mod OneOutcome
