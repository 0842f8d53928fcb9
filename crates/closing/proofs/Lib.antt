-- Laws that the proofs cite.
pub mod Order
pub mod Room
pub mod Round
