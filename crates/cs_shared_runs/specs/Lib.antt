pub mod Serving
pub mod Locks
pub mod Answers
pub mod Finding
pub mod Naming
