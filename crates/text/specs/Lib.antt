pub mod Spelling
pub mod Program
pub mod Cut
pub mod Move
pub mod Reading
pub mod Accept
