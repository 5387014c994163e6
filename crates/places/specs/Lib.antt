pub mod Bytes
pub mod GateWords
pub mod HeaderLines
pub mod Limits
pub mod Lines
pub mod Place
pub mod Places
pub mod Positions
