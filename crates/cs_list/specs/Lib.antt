pub mod Json
pub mod Lines
pub mod Listings
pub mod Paths
pub mod Printed
pub mod Profiles
