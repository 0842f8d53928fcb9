-- Laws for the crates that read such files.
pub mod Bools
pub mod Passes
pub mod Right
pub mod Entries
pub mod Starts
