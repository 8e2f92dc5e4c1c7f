pub mod Words
pub use Rattle.config_rules.specs.MachineText
