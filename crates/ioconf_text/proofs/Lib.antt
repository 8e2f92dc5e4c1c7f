mod NumberText
pub mod SeekLemmas
