pub mod Ties
pub mod Cuts
pub mod BoundOrder
pub mod Admits
