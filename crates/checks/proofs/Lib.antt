-- a count of words cut to one more than a block may have: what is lost by it, and that products may be cut on the way
pub mod Capped
-- the block of a sheet: what its checks tell, and its rows and words
pub mod SheetBlock
