-- What the contracts cite.
pub mod Digits
pub mod ReadDecimal
pub mod ReadHex
pub mod Placed
