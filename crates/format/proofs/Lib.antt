pub mod Firsts
pub mod Counted
pub mod Limits
pub mod Chunks
