-- one outcome: what that is, and that every public function has it, floor by floor
pub mod Once
pub mod Checks
pub mod Flat
pub mod Axes
pub mod Sheets
pub mod Desk
pub mod Exports
-- the same of the step and the tick over their clauses
pub mod Walked
-- calls as a caller sees them, from what the checker reads
pub mod Seen
-- demand 1: every list of checks gives its numbers exactly when
pub mod EveryList
-- demand 2: passes and recursion leave the same words
pub mod Methods
-- demand 3 about the contracts of the chains, on four and on five axes, as the checker reads them
pub mod Demand3
-- both releases about the contracts of the direct requests as the checker reads them
pub mod Releases
-- result sheets come back: what is written reads back the same, and what is read is what would be written
pub mod ResultSheets
-- wrong versions as tables, whose rows a computed test refutes; facts that such a test sees; the shapes that promises have
pub mod Wrong
pub mod Tested
pub mod Shapes
-- the wrong versions of each call: a block laid out afresh; words moved by a rule; runs of words and blocks of chunks; stores in a mapped file; lists of cycles; answers alone; the join desk;
-- sheets, their writers and the whole job
pub mod RefutedBlocks
pub mod RefutedMoves
pub mod RefutedRuns
pub mod RefutedMapped
pub mod RefutedCycles
pub mod RefutedAnswers
pub mod RefutedDesk
pub mod RefutedSheets
