pub mod Counting
pub mod Splitting
mod Chains
mod Writing
pub mod Holding
pub mod Leaving
mod Moving
pub mod Unique
