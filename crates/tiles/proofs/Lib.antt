-- a side cut into parts
pub mod Parts
-- a band as tiles: its places are one to one
pub mod BandPlaces
-- the places of a block as tiles are one to one
pub mod Places
-- two blocks as tiles of one block are equal, and what tiles as wide or as tall as the block do
pub mod Tiled
-- the tiles listed band by band, tile by tile, row by row are the tiles
pub mod Listed
-- the benches hold
pub mod Benches
-- a band laid tile by tile
pub mod TileByTile
-- a block moved band by band
pub mod BandByBand
-- what the checks tell
pub mod Accepted
-- the outcome of an accepted conversion
pub mod Outcome
-- any two outcomes coincide, each conversion undoes the other, and what wide and tall tiles do
pub mod OneOutcome
