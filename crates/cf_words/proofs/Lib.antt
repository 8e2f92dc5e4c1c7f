pub mod ListLemmas
pub mod SameLemmas
pub mod LocatorLemmas
pub mod ValueLemmas
pub mod MarkLemmas
pub mod NameLemmas
pub mod Blank
