pub mod Notes
pub mod Subscribers
pub mod Parents
pub mod Queues
pub mod Calls
