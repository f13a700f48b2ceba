pub mod Factors
pub mod Field
