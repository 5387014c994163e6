pub mod Convert
pub mod FromOldPromise
pub mod RewritePromise
pub mod ToOldPromise
