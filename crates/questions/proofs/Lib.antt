pub mod Asking
pub mod Ranges
