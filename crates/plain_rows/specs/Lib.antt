pub mod Lists
pub mod Placed
pub mod Drivers
pub mod Suited
pub mod Sought
pub mod Taken
pub mod Styles
