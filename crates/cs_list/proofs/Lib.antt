pub mod Added
pub mod More
pub mod Objects
pub mod Slots
