pub mod ChoiceLaws
pub mod ChooseLaws
pub mod DueLaws
pub mod PlanLaws
pub mod RescanLaws
pub mod PairLaws
pub mod AloneLaws
pub mod LateLaws
