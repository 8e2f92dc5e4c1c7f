pub mod Bears
pub mod Found
