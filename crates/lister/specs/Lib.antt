pub mod Lister
