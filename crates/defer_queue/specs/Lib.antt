pub mod Queue
pub use Rattle.run_rules.specs.After
