pub mod Blaming
pub mod Flushing
pub mod ReadingPicks
pub mod Scened
