pub mod Sound
pub mod Guarded
pub mod Nested
pub mod Bounding
pub mod Read
pub mod Checked
