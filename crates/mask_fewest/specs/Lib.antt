pub mod Promise
pub mod Stages
