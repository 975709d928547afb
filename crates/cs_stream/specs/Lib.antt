pub mod Streams
pub mod Overs
