pub mod KeyLemmas
pub mod ListLemmas
pub mod OfferLemmas
pub mod PartLemmas
pub mod PieceLemmas
pub mod PlaceLemmas
pub mod TestLemmas
