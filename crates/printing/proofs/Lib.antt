-- Laws for the proofs of this crate's functions: one text behind another, and how long the texts are.
pub mod Putting
pub mod Leaving
pub mod Answers
mod Commas
mod Texts
mod Cases
