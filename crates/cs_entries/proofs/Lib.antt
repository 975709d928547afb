pub mod Changed
pub mod Nothing
pub mod Results
pub mod Tables
