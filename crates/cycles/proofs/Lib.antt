-- the first number that passes a test
pub mod First
-- of n + 1 numbers below n two are equal
pub mod Pigeons
-- a one-to-one map brings every number home, and again at the multiples of the first time
pub mod Orbit
-- the map of offsets takes i·n + j to j·m + i and is one to one
pub mod Goes
-- the flat turn is the map of offsets
pub mod Sent
-- the map of offsets applied h times multiplies by m to the power h
pub mod Powers
-- turns bring every block back exactly when the power leaves 1
pub mod Turns
-- the fewest repeats, and that n by m takes as many as m by n
pub mod Fewest
-- the right cycle lists of small blocks, computed
pub mod CycleBenches
-- the map of all offsets of a block is one to one
pub mod Takes
-- the least number of a cycle, by the computed test
pub mod Least
-- two flat lists of pairs compared from the front
pub mod Pairs
-- the right list from one number on
pub mod From
-- lists in which every number stands once
pub mod Once
-- every number is in the cycle of one least number
pub mod Roots
-- the cycles of the right list visit every number once
pub mod Visits
-- moving the words along the cycles of the right list leaves the flat turn
pub mod Along
-- the right list by definition and in the words of the request
pub mod RightList
-- a quotient by multiplication with a rounded inverse
pub mod Inverse
-- the loop that follows a cycle: where it starts, one step more, where it ends
pub mod Follow
-- one step along a cycle, without a division
pub mod Stepping
