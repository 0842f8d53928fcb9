-- Laws for the proofs of this crate's functions: a line's numbers one behind another, and the lines of a run.
mod Lines
mod Runs
