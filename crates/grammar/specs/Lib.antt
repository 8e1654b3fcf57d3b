pub mod Text
pub mod Numbers
pub mod Faults
pub mod Calls
pub mod Heads
pub mod Reading
pub mod Grammar
pub mod Places
