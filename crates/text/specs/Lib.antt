pub mod Faults
pub mod Hexadecimal
pub mod Decimal
pub mod Lines
pub mod Kinds
