pub mod Written
mod Kept
