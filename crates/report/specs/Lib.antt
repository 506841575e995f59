-- The report over a stream of stored files.
pub mod Entry
pub mod Total
pub mod Report
pub mod Window
pub mod Prefix
pub mod EntryLaws
pub mod Bounds
pub mod Following
pub mod OneReport
pub mod Steps
