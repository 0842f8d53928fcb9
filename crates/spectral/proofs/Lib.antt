-- Laws of the one call.
pub mod Chunks
pub mod Stages
pub mod Paths
pub mod Determined
