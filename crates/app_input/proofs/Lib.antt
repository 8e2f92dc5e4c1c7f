pub mod AskedLaws
mod AskedVectors
pub mod DueLaws
pub mod ExplainedLaws
pub mod KindLaws
pub mod MadeLaws
pub mod PlanLaws
pub mod ScriptedLaws
pub mod SideBySide
pub mod StopLaws
