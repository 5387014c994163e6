pub mod Asked
pub mod Causes
pub mod Judged
pub mod Marked
pub mod Promise
