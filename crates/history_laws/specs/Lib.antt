pub mod Counted
pub mod Tells
pub mod Always
pub mod Reliable
pub mod Calm
