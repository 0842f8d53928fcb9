-- What the contracts cite.
pub mod Market
pub mod Graph
pub mod Passes
