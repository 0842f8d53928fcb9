-- Laws for the proofs of this crate's functions.
pub mod Sizes
pub mod Heads
pub mod Rising
pub mod Steps
