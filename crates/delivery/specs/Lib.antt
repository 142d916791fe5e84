pub mod Deliveries
pub mod Model
pub mod Bounds
pub mod Decoded
pub mod Views
