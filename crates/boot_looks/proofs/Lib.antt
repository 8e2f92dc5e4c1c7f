pub mod Turns
pub mod Looking
pub mod Winners
pub mod Spans
pub mod Awaited
pub mod Unvisited
pub mod Missed
