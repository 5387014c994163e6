-- Lemmas on covers and the cells made of them.
pub mod Wiring
