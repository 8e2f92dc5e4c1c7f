pub mod Candidates
pub mod Scans
pub mod Watched
pub mod Deeds
pub mod Finals
pub mod Boots
pub mod Unwanted
pub mod Thorough
