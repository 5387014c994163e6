pub mod Place
pub mod Rule
pub mod State
