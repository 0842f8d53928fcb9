-- Laws for the proofs of this crate's functions, and for callers: Lines (what a line is read as, both ways) and Runs (what a file is read
-- as, and which line is at fault, both ways).
pub mod Steps
pub mod Lines
pub mod Rest
pub mod Arrays
pub mod Lists
pub mod Runs
pub mod Cases
