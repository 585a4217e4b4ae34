pub mod DiskLayout
pub mod JournalInterval
pub mod Calls
