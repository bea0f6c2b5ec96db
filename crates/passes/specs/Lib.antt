pub mod Lines
pub mod PrivateScratch
pub mod PrivateWalks
pub mod Ticks
pub mod Restart
pub mod Plain
pub mod TickRuns
pub mod Steps
