pub mod Told
pub use Rattle.live_rules.specs.Live
pub use Rattle.live_rules.specs.LiveText
pub use Rattle.live_rules.specs.PlanText
