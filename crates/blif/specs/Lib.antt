-- What statements of BLIF mean.
pub mod Meaning
pub mod Judged
