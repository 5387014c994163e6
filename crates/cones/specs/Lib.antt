pub mod Cone
pub mod Promise
