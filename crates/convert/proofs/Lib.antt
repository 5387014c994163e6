pub mod Converting
pub mod FromOldPromised
pub mod OldEntries
pub mod RewritePromised
pub mod ToOldPromised
