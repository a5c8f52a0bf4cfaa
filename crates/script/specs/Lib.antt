pub mod Script
pub mod Played
pub mod Lines
pub mod Stream
pub mod Records
