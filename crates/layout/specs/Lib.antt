pub mod Offsets
pub mod Demands
pub mod Keys
pub mod Records
pub mod States
pub mod Rooms
pub mod Rows
pub mod Runs
