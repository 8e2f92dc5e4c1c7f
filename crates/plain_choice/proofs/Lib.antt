pub mod LateLaws
pub mod Unmarked
