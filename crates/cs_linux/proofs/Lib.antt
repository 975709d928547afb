pub mod Changed
pub mod Texts
