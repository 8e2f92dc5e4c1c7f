pub mod Rules
pub mod Plain
pub mod LiveDevices
pub mod Noted
pub mod Wanted
pub mod Marks
pub mod Tallies
