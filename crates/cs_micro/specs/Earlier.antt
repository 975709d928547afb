pub mod Blocks
pub mod EntryKind
pub mod MicroOp
pub mod MicroOperations
pub mod Micros
pub mod SyncPoint
pub mod SyncPoints
pub mod Same
