pub mod Ahead
pub mod Still
pub mod Ends
pub mod Ring
pub mod Plain
