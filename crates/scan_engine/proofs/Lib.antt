pub mod StackLaws
pub mod Positions
pub mod Order
pub mod TurnsOf
pub mod TurnLaws
pub mod BusLaws
pub mod SpanLaws
pub mod StyleLaws
