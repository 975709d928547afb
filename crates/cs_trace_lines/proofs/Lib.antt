pub mod Apart
pub mod HexDigits
pub mod LayingOut
pub mod Members
pub mod Octal
pub mod Parting
pub mod Versioned
