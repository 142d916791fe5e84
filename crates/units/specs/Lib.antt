pub mod Configurations
pub mod Guards
pub mod GuardWords
pub mod Records
pub mod Scans
pub mod Views
