pub mod CursorLaws
pub mod EndLaws
pub mod MarkLaws
pub mod SplitLaws
pub mod SeekLaws
pub mod LowLaws
pub mod FindLaws
