pub mod Tracks
pub mod Sets
pub mod Drafts
pub mod Ranges
