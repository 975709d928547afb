pub mod Texts
pub mod Patch
pub mod Files
pub mod Layers
