pub mod Marks
pub mod Search
