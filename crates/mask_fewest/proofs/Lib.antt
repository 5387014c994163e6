pub mod Giving
pub mod Promised
