pub mod Limit
pub mod Order
