pub mod StandingLemmas
pub mod RootedLemmas
pub mod WantLemmas
pub mod NamingLemmas
pub mod ReachedLemmas
pub mod TableLaws
