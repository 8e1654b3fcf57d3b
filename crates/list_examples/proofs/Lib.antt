mod Moving
mod Pending
