pub mod Names
pub mod Kin
