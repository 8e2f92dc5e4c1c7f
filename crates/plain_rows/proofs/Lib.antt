pub mod ListLaws
pub mod PlacedLaws
pub mod DriverLaws
pub mod CandidateLaws
pub mod AlikeLaws
pub mod StyleLaws
pub mod UnnamedLaws
