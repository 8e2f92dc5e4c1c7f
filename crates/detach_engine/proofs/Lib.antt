pub mod MarkLaws
pub mod FreeLaws
pub mod SortedLaws
