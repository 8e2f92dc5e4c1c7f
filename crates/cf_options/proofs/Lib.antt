pub mod KeptLemmas
pub mod IdleLemmas
pub mod LastLemmas
pub mod FlagLemmas
