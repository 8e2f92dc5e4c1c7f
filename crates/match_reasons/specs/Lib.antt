pub mod Reasons
pub mod Searches
pub mod Laws
