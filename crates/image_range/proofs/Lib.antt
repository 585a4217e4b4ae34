pub mod Places
pub mod Damage
pub mod Ranges
