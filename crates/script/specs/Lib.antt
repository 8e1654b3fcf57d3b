pub mod Near
pub mod Parts
pub mod Lines
pub mod CallLines
pub mod Kept
pub mod HeadLines
pub mod Outcome
pub mod CallsLeft
