pub mod Reading
pub mod Checking
pub mod Putting
pub mod Deciding
pub mod Filling
