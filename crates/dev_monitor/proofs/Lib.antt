pub mod NoteLaws
pub mod ParentLaws
pub mod QueueLaws
pub mod WatchLaws
pub mod BoardLaws
pub mod CallLaws
