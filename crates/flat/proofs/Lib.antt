-- the benches of document 01 marked P hold
pub mod Benches
-- the turn in the words of document 01, both ways round; a turn and its reverse undo each other
pub mod Turn
-- the numbers of the three passes: every line's places are paired one to one
pub mod Sides
-- the three passes, one after the other, are the turn
pub mod Passes
-- what the checks of a flat call tell
pub mod Accepted
-- the numbers that a line is sent to are different
pub mod Apart
-- Euclid's algorithm gives the greatest common divisor, and Euclid's lemma
pub mod Gcd
