pub mod Circuit
pub mod Rows
pub mod Code
pub mod Refusals
pub mod Vector
