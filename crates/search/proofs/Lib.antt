pub mod LeftLaws
pub mod TrackLaws
pub mod WalkLaws
pub mod SearchLaws
