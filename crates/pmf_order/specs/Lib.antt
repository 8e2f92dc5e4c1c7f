pub mod Resting
pub mod Under
pub use Rattle.dev_tree.specs.Tree
pub use Rattle.run_rules.specs.World
pub use Rattle.run_rules.specs.Next
