pub mod LateLaws
pub mod WalkLaws
