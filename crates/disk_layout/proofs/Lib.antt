pub mod Intervals
pub mod Parts
pub mod Overlap
pub mod Sharing
pub mod Locations
