-- What the contracts cite.
pub mod Blocks
pub mod Tables
