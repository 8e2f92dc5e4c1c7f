pub mod FormedNames
pub mod FormedEvents
pub mod RecentLaws
