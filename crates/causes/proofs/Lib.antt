pub mod Admitting
pub mod Beginnings
pub mod Judging
pub mod Marking
pub mod Testing
