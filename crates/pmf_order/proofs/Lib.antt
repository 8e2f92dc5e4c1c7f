pub mod Numbered
pub mod AboveLaws
pub mod FromEnd
