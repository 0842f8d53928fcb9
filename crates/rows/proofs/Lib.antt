-- The laws that the proofs of `rows` cite.
pub mod Starting
pub mod Passes
