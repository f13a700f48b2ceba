pub mod Slots
pub mod Answers
pub mod Finding
pub mod Limits
pub mod Leaving
