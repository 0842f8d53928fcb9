-- What the contracts cite.
pub mod Said
pub mod Inner
