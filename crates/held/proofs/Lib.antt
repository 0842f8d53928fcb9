-- The laws of a held run.
pub mod Places
pub mod Ops
pub mod Lens
pub mod Marks
pub mod Law
