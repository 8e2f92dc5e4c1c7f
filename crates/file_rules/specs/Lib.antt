pub mod Chosen
pub mod Condition
pub mod Sources
