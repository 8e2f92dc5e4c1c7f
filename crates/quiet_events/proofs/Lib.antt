pub mod Keeping
pub mod Quiet
