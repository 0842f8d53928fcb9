-- What the contracts cite.
pub mod Outcome
pub mod Said
pub mod Accepted
