pub mod Rows
pub mod Known
pub mod Takes
pub mod Near
pub mod Seen
pub mod Answers
pub mod Laws
