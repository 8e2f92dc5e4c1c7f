pub mod Define
pub mod Items
pub mod Keywords
pub mod LeftOut
pub mod Negation
pub mod Pairs
pub mod Places
pub mod Statement
