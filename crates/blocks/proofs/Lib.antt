-- Laws of the stages' work.
pub mod Chosen
pub mod Own
pub mod Reductions
pub mod Writes
pub mod Passes
