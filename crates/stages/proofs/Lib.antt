-- Laws of the stages.
pub mod Written
pub mod Entries
pub mod Arms
pub mod Parts
