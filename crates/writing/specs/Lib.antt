-- What the contracts cite.
pub mod Putting
