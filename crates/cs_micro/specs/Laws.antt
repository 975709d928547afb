pub mod Pages
pub mod Starts
