pub mod Tiles
pub mod Bands
pub mod Promises
pub mod Private
pub mod PrivateWay
pub mod Benches
