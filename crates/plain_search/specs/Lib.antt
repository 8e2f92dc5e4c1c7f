pub mod Open
pub mod Deeds
pub mod Buses
pub mod Units
