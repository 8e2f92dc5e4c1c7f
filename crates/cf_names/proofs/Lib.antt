pub mod AttachLemmas
pub mod NumberLemmas
pub mod SpotLemmas
