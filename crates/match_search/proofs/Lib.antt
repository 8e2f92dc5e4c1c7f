pub mod BestLaws
pub mod CandidateLaws
pub mod PlacedLaws
pub mod ListedLaws
pub mod UnnamedLaws
pub mod LeaderLaws
pub mod FixedLaws
pub mod PlaceListLaws
