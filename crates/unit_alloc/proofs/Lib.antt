pub mod BitmapLaws
pub mod FreeLaws
pub mod TakenLaws
