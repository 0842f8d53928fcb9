-- What the contracts cite.
pub mod Printed
pub mod Room
pub mod Answer
pub mod Items
