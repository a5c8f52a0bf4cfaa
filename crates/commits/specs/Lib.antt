pub mod Commits
pub mod Batches
