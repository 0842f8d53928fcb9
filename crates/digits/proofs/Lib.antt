-- Laws for the proofs of this crate's functions, and for callers: Decimals and Hexes (a number and its text determine each other),
-- Reading (what the readers answer, both ways), RoundTrip (what was written is read, what was read is written).
pub mod Bytes
pub mod Lists
pub mod Runs
pub mod Decimals
pub mod Hexes
pub mod Scans
pub mod Putting
pub mod Reading
pub mod RoundTrip
pub mod Cases
