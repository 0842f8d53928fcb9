-- Laws of the machine.
pub mod Own
pub mod Record
