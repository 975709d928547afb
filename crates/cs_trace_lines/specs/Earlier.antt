pub mod Fields
pub mod Lines
pub mod StartKind
pub mod Verb
pub mod Version
