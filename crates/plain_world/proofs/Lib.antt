pub mod WantedLaws
pub mod Ready
pub mod Kept
pub mod Stands
pub mod RulesLaws
pub mod MarkLaws
pub mod TallyLaws
pub mod Going
