-- Laws for the proofs of this crate's functions: Sizes (the tests of limits and room), Bodies (the passes over the text together), Outcomes.
pub mod Sizes
pub mod Bodies
pub mod Places
pub mod Outcomes
pub mod Accepted
