-- What cells mean: tables, covers, and gates that compute them.
pub mod Tables
pub mod Covers
pub mod Computes
pub mod Verify
pub mod Netlists
