pub mod Words
pub mod Firsts
pub mod Refusals
pub mod Heads
pub mod Parts
