pub mod Making
pub mod Prefixes
pub mod Bytes
pub mod Made
