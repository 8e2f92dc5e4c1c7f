pub mod Live
pub mod Laws
pub mod LiveText
pub mod PlanText
