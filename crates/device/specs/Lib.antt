pub mod Coupling
pub mod Layout
pub mod Board
pub mod Trees
pub mod Hops
pub mod Connect
pub mod Checks
pub mod Distances
