pub mod Heads
pub mod Signs
pub mod Library
pub mod OrderLaws
pub mod OneAnswer
