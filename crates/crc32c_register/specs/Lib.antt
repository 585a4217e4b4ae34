pub mod Register
pub mod Rows
