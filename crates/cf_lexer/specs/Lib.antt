pub mod Check
pub mod Fourth
pub mod Front
pub mod Line
pub mod Lines
pub mod Rest
pub use Rattle.config_rules.specs.Cut
