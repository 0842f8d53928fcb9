-- Laws that the proofs of this crate's functions cite.
pub mod Order
pub mod Runs
pub mod Moves
pub mod Heaps
pub mod Insertion
pub mod Quick
pub mod Ranks
pub mod Rows
