pub mod CopyLaws
pub mod SpliceLaws
