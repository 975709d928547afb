pub mod Faults
pub mod Lists
pub mod Parts
pub mod Plans
pub mod Refusals
pub mod Scenes
pub mod Texts
