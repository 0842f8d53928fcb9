-- What the contracts cite.
pub mod Sums
