mod NumberLemmas
pub mod ShapeLemmas
