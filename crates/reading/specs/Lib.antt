-- What the contracts cite.
pub mod Grammar
pub mod Fault
pub mod ReadLine
pub mod ReadRun
pub mod Parts
