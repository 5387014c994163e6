-- Lemmas on lines.
pub mod Lines
pub mod Agreeing
