pub mod GroupLemmas
pub mod MarkLemmas
pub mod RowLemmas
pub mod SelectionLaws
pub mod WarnLemmas
