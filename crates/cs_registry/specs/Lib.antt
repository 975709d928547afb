pub mod Finds
pub mod Keys
pub mod Naming
pub mod Publishing
pub mod Registries
pub mod Runs
