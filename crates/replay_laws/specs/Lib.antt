pub mod OneLine
pub mod Taken
pub mod Meant
