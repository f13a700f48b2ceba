pub mod Work
pub mod Sealing
pub mod Commands
