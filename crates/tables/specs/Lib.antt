pub mod Actions
pub mod Cells
pub mod Gotos
pub mod Productions
