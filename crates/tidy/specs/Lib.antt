pub mod Table
pub mod Rules
pub mod Engine
pub mod Promise
