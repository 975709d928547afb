pub mod Entries
pub mod Faults
pub mod FidOf
pub mod Fids
pub mod Opens
pub mod Slots
pub mod Tables
