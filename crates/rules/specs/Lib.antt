pub mod Names
pub mod Format
pub mod Sizes
