pub mod Changes
pub mod Keeping
pub mod Leasts
pub mod Maps
pub mod Numbers
pub mod Putting
pub mod Results
pub mod Taking
