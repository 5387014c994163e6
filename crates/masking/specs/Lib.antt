pub mod AndBits
pub mod Calls
pub mod Changes
pub mod GateCount
pub mod Leak
pub mod Mask
pub mod Twins
pub mod Unmask
