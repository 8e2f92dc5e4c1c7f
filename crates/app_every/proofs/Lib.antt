pub mod Bears
pub mod Found
pub mod Texts
pub mod Told
