pub mod Evaluated
pub mod Framing
pub mod Depth
pub mod Walking
pub mod Stepping
pub mod Parsing
pub mod Passing
