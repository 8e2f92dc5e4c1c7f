pub mod NameLaws
pub mod KinLaws
