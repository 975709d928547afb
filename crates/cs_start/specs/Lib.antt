pub mod Below
pub mod Entries
pub mod Names
pub mod Owned
pub mod Siblings
pub mod Starts
pub mod Unions
