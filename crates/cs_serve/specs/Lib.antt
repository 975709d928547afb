pub mod Reloads
pub mod Summary
pub mod Users
