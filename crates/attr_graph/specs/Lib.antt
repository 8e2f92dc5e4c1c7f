pub mod Graphs
pub mod Reach
pub use Rattle.cf_types.specs.Offers
