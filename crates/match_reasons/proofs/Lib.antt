pub mod Finds
pub mod LineLaws
pub mod Bests
pub mod ReasonLaws
pub mod FirstLaws
pub mod ToldLaws
