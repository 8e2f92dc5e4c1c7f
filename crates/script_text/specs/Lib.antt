pub mod Left
pub mod Verbs
pub mod WatchText
pub mod WatchLeft
pub use Rattle.config_rules.specs.ScriptText
