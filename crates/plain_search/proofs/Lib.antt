pub mod Both
pub mod OpenLaws
pub mod IndirectLaws
pub mod BusLaws
pub mod TurnLaws
pub mod UnitLaws
pub mod DeedLaws
