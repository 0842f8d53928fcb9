-- The laws that the proofs of this crate share.
pub mod Fills
pub mod Lent
pub mod Locals
pub mod Firsts
