pub mod GateNames
pub mod OldAccepted
pub mod OldRoundTrip
pub mod ThereAndBack
