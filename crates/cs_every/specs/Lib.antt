pub mod Texts
pub mod Lines
pub mod Drawn
pub mod Counted
pub mod Faults
