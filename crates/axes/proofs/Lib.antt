-- the five lengths of a shape, of which the first are those of its axes
pub mod Five
-- the checks of a block and of a chain as facts, and that an accepted block stays accepted after a chain
pub mod Accepted
-- a swap of two neighbouring axes, over any number of axes, is a swap in the middle of four
pub mod Grouped
-- one swap of a chain, by the adjacent swap
pub mod Steps
-- a chain swap by swap, and what is promised once all swaps are made
pub mod Progress
-- what makes the promise of a refused call, of a request from that of the chain of its plan, and of a request in one release from that in another
pub mod Calls
-- any two outcomes that a promise allows coincide: chain-once, request-once
pub mod OneOutcome
-- demand 3: chains-join, one-order, backwards, one-meaning, plan-leaves; in either release one-meaning-by, plan-leaves-by, releases-agree;
-- chains-join-scratch and backwards-scratch through one scratch
pub mod Demands
