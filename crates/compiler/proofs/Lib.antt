pub mod Laid
pub mod Swapping
pub mod Doings
pub mod Roots
pub mod Onward
pub mod Toffoli
pub mod Main
mod Over
mod Expansions
mod Emit
mod Nearing
mod Costs
mod Filling
pub mod Refusing
