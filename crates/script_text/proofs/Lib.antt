pub mod LeftLemmas
pub mod LineLoop
pub mod OperandLemmas
pub mod OrderLemmas
pub mod PairLemmas
pub mod ScriptLemmas
pub mod VerbLemmas
pub mod WatchLemmas
