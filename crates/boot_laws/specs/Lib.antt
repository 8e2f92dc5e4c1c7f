pub mod Settled
pub mod Thorough
pub use Rattle.progress_laws.specs.Ends
