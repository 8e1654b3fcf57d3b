pub mod Splitting
pub mod Cutting
pub mod Stepping
pub mod Keeping
pub mod Checking
pub mod Scripts
