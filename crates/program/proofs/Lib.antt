pub mod FilesLaws
pub mod Printing
pub mod Reporting
