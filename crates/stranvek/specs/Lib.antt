pub mod Boundary
pub mod Answers
