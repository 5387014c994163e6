pub mod Fronts
pub mod Lanes
pub mod Made
pub mod Runs
pub mod Steps
pub mod Words
