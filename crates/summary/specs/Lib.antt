pub mod Depth
pub mod Counts
pub mod Text
