pub mod KnownAct
pub mod Told
pub mod Tellers
