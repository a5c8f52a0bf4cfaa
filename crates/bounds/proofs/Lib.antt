pub mod Combining
pub mod PairCuts
pub mod RangeOrder
pub mod Meets
pub mod Joins
pub mod Points
pub mod Greater
