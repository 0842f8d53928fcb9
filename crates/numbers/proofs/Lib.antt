pub mod Bounds
pub mod Digits
pub mod Nearness
pub mod Once
pub mod Values
