pub mod Asking
pub mod HeaderForms
pub mod Scanning
pub mod Walking
