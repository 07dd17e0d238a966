pub mod RingLaws
pub mod Bounds
mod Arms
pub mod TextRead
mod TextShow
