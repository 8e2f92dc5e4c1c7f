pub mod Asked
pub mod Laws
pub mod Ran
pub mod StuckText
