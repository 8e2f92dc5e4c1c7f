pub mod ItemFlags
pub mod Last
pub mod Parts
pub use Rattle.config_rules.specs.Fault
pub use Rattle.config_rules.specs.Meaning
pub use Rattle.config_rules.specs.Select
