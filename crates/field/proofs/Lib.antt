pub mod Places
pub mod Products
