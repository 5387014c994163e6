pub mod Base
pub mod Block
pub mod Difference
pub mod Paint
pub mod Search
