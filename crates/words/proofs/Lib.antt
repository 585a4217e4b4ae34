pub mod All
pub mod Slices
pub mod Words
pub mod Splice
pub mod Zeros
