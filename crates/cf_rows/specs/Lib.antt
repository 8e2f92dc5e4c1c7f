pub mod Idle
pub mod Rows
pub use Rattle.config_rules.specs.Meaning
