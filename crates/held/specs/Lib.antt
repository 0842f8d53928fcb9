-- What a held run is, over any machine.
pub mod Places
pub mod Marks
pub mod Calls
