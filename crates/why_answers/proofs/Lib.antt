pub mod RowLines
pub mod Puts
pub mod Nears
pub mod SeenLaws
pub mod Reasons
