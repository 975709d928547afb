pub mod Printed
pub mod Scripted
pub mod Scripts
