-- a row of a table of the orders, and what stands past its end
pub mod Rows
-- what the search of the plan finds, and what its loops carry
pub mod PlanSteps
-- what makes the promise of a plan
pub mod Given
-- any two outcomes that the promise of a plan allows coincide
pub mod OneOutcome
