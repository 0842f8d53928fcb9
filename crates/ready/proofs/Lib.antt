-- Laws of the machine's tests: what they show, and when a call is accepted.
pub mod Tested
pub mod Widths
pub mod Ready
