pub mod Rows
pub mod Table
pub mod Places
pub mod Rest
