pub mod Rooms
pub mod Wholes
