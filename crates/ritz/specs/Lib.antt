-- What the contracts cite beside the definition: the lists that keep its matrices and its order.
pub mod Matrices
pub mod Order
