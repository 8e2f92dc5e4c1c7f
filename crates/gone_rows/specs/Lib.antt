pub mod Gone
pub mod GoneText
