pub mod CountLemmas
pub mod OperandLemmas
pub mod ScriptedOperands
