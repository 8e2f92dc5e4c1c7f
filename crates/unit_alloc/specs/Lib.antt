pub mod Taken
pub use Rattle.cf_types.specs.Gather
pub use Rattle.cf_types.specs.Numbers
