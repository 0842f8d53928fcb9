-- The laws that the functions' proofs cite.
pub mod Chains
pub mod Scans
pub mod Asked
pub mod RowLaws
pub mod Stages
pub mod Lengths
pub mod Verdicts
pub mod Owed
pub mod Determined
pub mod Begun
