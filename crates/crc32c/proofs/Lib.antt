pub mod Lanes
pub mod Range
