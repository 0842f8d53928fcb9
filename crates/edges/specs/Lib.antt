pub mod Sorting
pub mod Edges
