pub mod Admitting
pub mod Keyed
pub mod Telling
pub mod Publishing
pub mod Scenes
pub mod Widening
