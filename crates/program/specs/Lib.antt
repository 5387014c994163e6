pub mod Front
pub mod Line
pub mod Programs
