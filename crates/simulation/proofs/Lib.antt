mod Lines
mod Ready
