pub mod Candidates
pub mod Next
pub mod Causes
pub mod Wrongs
pub mod Explained
