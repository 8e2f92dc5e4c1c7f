pub mod Ran
pub mod Retold
pub mod Summary
pub mod Watched
pub mod Watching
