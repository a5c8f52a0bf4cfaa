pub mod Views
pub mod Counts
pub mod Walks
pub mod Chains
pub mod BoundWalks
pub mod Links
