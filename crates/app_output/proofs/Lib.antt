pub mod Ended
pub mod Headline
pub mod NextLines
pub mod Puts
pub mod TakenLemmas
pub mod RunLaws
pub mod Still
