pub mod Undo
pub mod Rename
pub mod Laws
pub mod Identities
