-- What the theorems cite.
pub mod Graph
