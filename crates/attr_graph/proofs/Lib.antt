pub mod BuildLemmas
pub mod GraphLaws
pub mod KeptLemmas
pub mod ReachLemmas
