pub mod Laws
pub mod Compare
pub mod Scan
