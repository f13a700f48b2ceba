pub mod Refusals
pub mod Bytes
pub mod Numbers
pub mod Polynomials
pub mod Blocks
