-- What the contracts cite beyond document 01.
pub mod Accumulators
