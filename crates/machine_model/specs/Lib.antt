pub mod Found
pub mod Indexed
pub mod Left
pub mod Names
pub mod NumberedNames
pub mod Sites
pub use Rattle.config_rules.specs.Formed
pub use Rattle.config_rules.specs.MachineText
