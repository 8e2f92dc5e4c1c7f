pub mod CheckLemmas
pub mod FrontLemmas
pub mod QuoteLemmas
pub mod RestLemmas
pub mod LineLemmas
pub mod PlaceLemmas
pub mod TextLemmas
mod TextWords
mod WordLemmas
