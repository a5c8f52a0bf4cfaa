pub mod Errs
pub mod Steps
pub mod Reading
pub mod Lists
pub mod Keys
pub mod Bounds
pub mod Writing
pub mod OneAnswer
