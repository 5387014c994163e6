pub mod Call
pub mod Delivered
pub mod Examples
pub mod File
pub mod Lines
pub mod Made
pub mod Outputs
pub mod Rules
