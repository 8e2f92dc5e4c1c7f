pub mod Deeds
pub mod Answered
pub mod Ends
pub mod Boots
pub mod Runs
