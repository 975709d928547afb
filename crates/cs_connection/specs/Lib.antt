pub mod Kept
pub mod Asking
pub mod Served
pub mod Given
