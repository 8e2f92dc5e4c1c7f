pub mod Heads
pub mod Lines
pub mod Stops
pub mod Going
pub mod Steps
pub mod Readers
