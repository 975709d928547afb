mod Places
mod Fresh
mod Lookups
mod Entering
mod Tabling
