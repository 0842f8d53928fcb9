-- Laws for the proofs of this crate's functions: Repeats (what is looked for, with a block taken out), Chains (the keys of a block, and
-- where a chain of them leads), Keys (what the keys tell of the entries) and Filling (a block on its way).
pub mod Repeats
pub mod Chains
pub mod Keys
pub mod Filling
