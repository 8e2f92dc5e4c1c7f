pub use Rattle.cf_types.specs.Locators
pub use Rattle.config_rules.specs.Fault
pub use Rattle.config_rules.specs.Joined
