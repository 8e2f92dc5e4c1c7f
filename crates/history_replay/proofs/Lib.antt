pub mod Joined
pub mod Cuts
pub mod Readings
pub mod Readers
pub mod Goes
pub mod Told
