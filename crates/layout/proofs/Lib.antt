-- offsets and coordinates correspond one to one
pub mod Offsets
-- orders compose, and an order that another undoes brings every list home
pub mod Picks
-- the laws of a layout: they compose, are undone, and leave one outcome
pub mod Laws
