-- what documents 01 and 02 say of single orders, plans and needs of four axes, computed
pub mod Bench
-- what one swap keeps, and what its code stores
pub mod Swaps
-- what following a chain keeps; chains joined, and a chain run backwards
pub mod Chains
-- the laws of layouts at the orders that chains name
pub mod Layouts
-- how often a label stands in a list, and how often before another
pub mod Counts
-- the list of orders holds what chains name, and nothing else
pub mod Listed
-- how many orders there are, which is the first, and that no two are the same
pub mod Distinct
-- orders by number, either way
pub mod Numbers
-- the orders by number are in dictionary order
pub mod Dictionary
-- two neighbouring labels exchanged, and a swap at the front of a chain
pub mod Relabels
-- what exchanging two labels does to the count of falling pairs
pub mod Falling
-- an order in which every label stands before its follower is 0, 1, ..
pub mod Rising
-- the computed plan is the plan, and how long it is
pub mod Plans
-- the need of a chain: read off the entry shape, of chains joined, of a chain run backwards
pub mod Needs
-- the need of a plan is the longest axis that falls, no chain of its order needs less, and the inverse order needs the same
pub mod PlanNeeds
-- the order that a number names by its release: both releases describe the same words, the numbers determine each other, needs and plans are alike
pub mod Releases
-- release 2 as it is said, by where each axis goes: its words are those of one release 1 number
pub mod Goes
