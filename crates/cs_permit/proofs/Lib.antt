pub mod Elements
pub mod Firsts
pub mod Keeping
pub mod Showing
