pub mod Promised
pub mod Spreading
