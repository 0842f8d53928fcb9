-- Laws of held matrices, of Jacobi's pieces and of their loops; how one place is put into the order of the Ritz values.
pub mod Held
pub mod Turns
pub mod Both
pub mod Insert
