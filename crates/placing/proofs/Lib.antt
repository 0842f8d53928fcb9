-- Laws that the functions' proofs cite.
pub mod Filling
pub mod Entries
pub mod Rows
pub mod Counts
pub mod Places
