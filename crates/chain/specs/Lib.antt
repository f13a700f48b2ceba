pub mod Cells
pub mod Memory
pub mod Soundness
pub mod Lent
pub mod Meaning
pub mod Examples
