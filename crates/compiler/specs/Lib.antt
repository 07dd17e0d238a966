pub mod Promise
pub mod Route
pub mod Expand
pub mod Emits
pub mod Refuses
pub mod Onward
pub mod Swaps
