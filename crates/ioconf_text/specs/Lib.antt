pub mod Entries
pub mod Seeking
pub use Rattle.config_rules.specs.Listing
