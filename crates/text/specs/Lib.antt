-- What the contracts cite.
pub mod Small
pub mod Answer
