-- What the theorems say.
pub mod Grammar
