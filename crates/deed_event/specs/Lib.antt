pub mod Sayings
pub mod Resting
