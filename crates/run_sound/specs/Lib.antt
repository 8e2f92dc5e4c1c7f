pub mod Left
pub mod Kept
pub mod InFull
pub mod Calls
pub mod Scripts
pub mod Holding
pub use Rattle.run_rules.specs.World
pub use Rattle.run_rules.specs.Sound
