pub mod MaskLaws
pub mod PlaceLaws
pub mod HeldLaws
pub mod LedgerLaws
