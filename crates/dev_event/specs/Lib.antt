pub mod Words
pub mod Reading
pub mod Spelled
pub use Rattle.run_rules.specs.Lines
