pub mod Keys
pub mod Digits
pub mod Agreeing
pub mod Compared
pub mod Maps
