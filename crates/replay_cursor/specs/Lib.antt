pub mod Cursor
pub mod Calls
pub mod Lent
