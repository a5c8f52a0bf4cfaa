pub mod Codec
pub mod CodecLaws
pub mod Formats
pub mod Stands
