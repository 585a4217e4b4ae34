pub mod Crc32c
pub mod Lanes
