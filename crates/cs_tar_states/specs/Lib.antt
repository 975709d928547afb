pub mod Archives
pub mod Faults
