-- Laws of the three calls.
pub mod Paths
