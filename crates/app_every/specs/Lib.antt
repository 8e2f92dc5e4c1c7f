pub mod Asked
pub mod EveryText
pub mod Laws
