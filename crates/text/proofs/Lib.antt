pub mod Small
pub mod Held
