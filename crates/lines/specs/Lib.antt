-- What the contracts cite.
pub mod Lines
pub mod Kinds
pub mod Banner
pub mod Read
pub mod Parts
