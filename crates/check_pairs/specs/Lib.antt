pub mod Bases
pub mod Call
pub mod Judge
pub mod Level
pub mod Pairs
pub mod Promise
pub mod Search
