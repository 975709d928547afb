pub mod Ended
pub mod PickLines
pub mod Picks
pub mod PicksFaults
pub mod Refusals
pub mod Returns
pub mod Scenes
pub mod Written
