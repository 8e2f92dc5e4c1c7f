pub mod NumberLemmas
pub mod NameLemmas
pub mod WordLemmas
pub mod SpotLemmas
pub mod DriverLemmas
pub mod MachineLemmas
pub mod SeenLemmas
pub mod LocatedLemmas
