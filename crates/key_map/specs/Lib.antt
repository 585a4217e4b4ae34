pub mod Keys
pub mod Digits
pub mod Map
