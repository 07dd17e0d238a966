pub mod Playing
pub mod Refuses
