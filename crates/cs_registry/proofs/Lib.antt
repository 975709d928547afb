pub mod Changing
pub mod Digits
pub mod Finding
pub mod Keeping
pub mod Telling
pub mod Keyed
