pub mod Layout
pub mod Soundness
pub mod Meaning
