pub mod Attaches
pub mod Hash
pub mod Indexed
pub mod NameNumbers
pub mod Spots
