pub mod Strings
pub mod Zeros
pub mod Digits
pub mod Doubling
pub mod Rings
pub mod Cutting
