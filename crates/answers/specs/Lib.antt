pub mod Answered
pub mod Decimals
pub mod Texts
