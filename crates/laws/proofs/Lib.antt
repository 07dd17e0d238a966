pub mod Undo
pub mod Same
pub mod Places
pub mod Rename
pub mod TableOf
