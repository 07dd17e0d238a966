pub mod Statements
pub mod Reasons
pub mod Reading
pub mod Answers
pub mod Compared
pub mod Compiled
pub mod RoundTrip
pub mod Where
