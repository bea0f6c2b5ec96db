-- the swap places of an answer
pub mod Swaps
-- the promise of the reader
pub mod Reader
-- the promise of the reader of result sheets
pub mod ResultReader
-- for private functions only: what is read at the head of the bytes
pub mod Private
