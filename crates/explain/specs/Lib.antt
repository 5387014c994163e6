pub mod Counts
pub mod CountsPromise
pub mod Polynomial
pub mod PolynomialPromise
pub mod Table
pub mod Totals
pub mod Wire
