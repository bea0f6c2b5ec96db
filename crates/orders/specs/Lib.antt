pub mod Chains
pub mod Numbers
pub mod Releases
pub mod Plans
pub mod Needs
