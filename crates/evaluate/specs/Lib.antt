pub mod Bare
pub mod Form
pub mod Lane
