-- The laws of the reductions.
pub mod Partials
pub mod Closing
