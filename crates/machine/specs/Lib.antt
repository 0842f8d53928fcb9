-- The held run as a function: state and lent lists in, state and lent lists out, one call at a time. Document 01, "The held run".
pub mod State
pub mod Ranges
pub mod Ready
pub mod Work
pub mod Closing
pub mod Calls
pub mod Progress
