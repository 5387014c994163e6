pub mod Promise
pub mod Verdict
