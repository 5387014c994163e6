pub mod Dialects
pub mod OldCalls
pub mod OldHeader
pub mod OldRead
pub mod OldWrite
