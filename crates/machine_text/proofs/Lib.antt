pub mod CommentLemmas
pub mod PartLemmas
pub mod PlainLemmas
pub mod TextLemmas
