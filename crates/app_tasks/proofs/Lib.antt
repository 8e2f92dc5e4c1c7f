pub mod Attached
pub mod BadLines
pub mod Counts
pub mod RanLaws
pub mod ReplayLaws
pub mod WatchedLaws
