pub mod Calling
pub mod Judging
