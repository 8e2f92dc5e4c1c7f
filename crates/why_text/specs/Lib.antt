pub mod WhyText
pub mod Looks
