pub mod Growth
pub mod Pairs
pub mod Places
pub mod Distant
pub mod Tables
pub mod Reading
