-- What the theorems of the run say.
pub mod Run
pub mod Shows
pub mod Promises
pub mod OneCall
pub mod Cases
pub mod Promised
