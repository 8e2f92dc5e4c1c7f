pub mod Cuts
pub mod Names
pub mod Shapes
pub mod Spelling
pub mod Callers
