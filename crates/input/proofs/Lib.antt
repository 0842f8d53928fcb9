-- The laws that the functions' proofs cite.
pub mod Flags
pub mod Verdicts
pub mod Accepted
pub mod Determined
