pub mod Parts
pub use Rattle.run_rules.specs.Tree
