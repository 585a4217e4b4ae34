pub mod Payloads
pub mod Images
