pub mod Certifying
pub mod Saying
