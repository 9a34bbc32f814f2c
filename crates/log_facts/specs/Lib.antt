pub mod Known
pub mod Said
