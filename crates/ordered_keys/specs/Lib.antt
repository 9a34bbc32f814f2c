pub mod Orders
pub mod inside
