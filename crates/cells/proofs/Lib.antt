-- Lemmas on tables and covers.
pub mod TableBits
pub mod CoverBits
pub mod Settings
pub mod CoverLaw
pub mod Runs
