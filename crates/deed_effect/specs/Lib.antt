pub mod Agreement
pub mod Effects
pub mod Commits
pub mod Publishing
pub mod SlotDeeds
