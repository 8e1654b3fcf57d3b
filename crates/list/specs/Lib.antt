pub mod Numbers
pub mod Links
pub mod Lists
pub mod Changes
pub mod Writes
