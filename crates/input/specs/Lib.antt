pub mod Said
pub mod Valid
