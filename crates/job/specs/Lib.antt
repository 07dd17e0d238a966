pub mod Builders
pub mod Plan
pub mod Split
