pub mod Image
pub mod Strip
