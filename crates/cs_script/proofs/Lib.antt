pub mod Ended
pub mod Filled
pub mod Lines
pub mod Loading
pub mod Numbers
pub mod RunLines
pub mod Serving
pub mod Told
