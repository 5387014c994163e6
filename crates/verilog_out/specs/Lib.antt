-- What a module of assignments says.
pub mod Assigns
