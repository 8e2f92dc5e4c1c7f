pub mod NumberRead
pub mod Shapes
pub mod Split
