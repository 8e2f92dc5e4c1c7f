pub mod Waits
pub use Rattle.run_rules.specs.Next
pub use Rattle.run_rules.specs.World
