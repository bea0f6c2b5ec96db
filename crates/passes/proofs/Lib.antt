-- a loop that stores word after word, or group after group, at places no two of which are one
pub mod Filled
-- walks, whatever they go over: steps and runs
pub mod Walks
-- runs of a line into scratch, and back
pub mod Runs
-- the walks over the lines of the passes, and where they begin
pub mod PassWalks
-- the places that a line receives its words from
pub mod Received
-- families of words moved one after the other, none sharing an offset
pub mod Family
-- the lines of a pass, one after the other, and the turn
pub mod Gone
-- steps run one after the other, and cut where a pass ends
pub mod Ran
-- the lines of a block turn it
pub mod Passed
-- every line of a block that lies in the buffer fits
pub mod Fits
-- what the checks of the flat calls tell, and what the turn and the cleared scratch are then
pub mod Accepted
-- the line of a tick in the words of documents 01 and 02
pub mod Plain
-- one line a tick: refused, a line moved, none left
pub mod Ticks
-- what the functions of a mapped turn store is what its stages say
pub mod Stages
-- the outcomes of a call of the mapped turn
pub mod Resumed
-- how many stores a mapped turn makes at most
pub mod Stores
-- a run of budgets whose last is enough leaves the flat turn
pub mod Restarted
-- any two outcomes that the promise of a call allows coincide
pub mod OneOutcome
-- any two outcomes of a tick coincide
pub mod OneTick
-- a turn and its reverse, either one first, restore every word
pub mod ThereAndBack
-- any two outcomes of a step coincide
pub mod StepOutcome
-- any run of calls: the record counts the accepted ones up to the line count, and the buffer then holds the flat turn
pub mod TickRuns
