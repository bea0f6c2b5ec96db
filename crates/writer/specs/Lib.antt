-- the promises of the writers
pub mod Writer
-- the promise of the writer of a refusal
pub mod RefusalWriter
-- for private functions only: bytes put into a buffer
pub mod PrivateBytes
-- for private functions only: the thin writer and the page that it writes
pub mod PrivateWriter
