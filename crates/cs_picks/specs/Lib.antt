pub mod Changes
pub mod Losses
pub mod Left
pub mod Families
pub mod Under
pub mod Sets
pub mod Covering
