pub mod Directories
pub mod Errors
pub mod Messages
pub mod Numbers
pub mod Renames
pub mod Requests
