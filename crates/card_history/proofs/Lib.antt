pub mod Each
pub mod OnCard
