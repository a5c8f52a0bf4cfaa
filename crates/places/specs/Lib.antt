pub mod Cursors
pub mod Finds
pub mod Rows
