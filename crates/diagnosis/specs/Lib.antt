pub mod Front
pub mod Standing
pub mod Faults
pub mod Sentences
pub mod Meaning
