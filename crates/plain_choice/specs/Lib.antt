pub mod Commands
pub mod Late
pub mod Power
pub mod Under
pub mod Waking
