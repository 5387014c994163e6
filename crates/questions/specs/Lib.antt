pub mod Asked
pub mod Codes
pub mod Range
