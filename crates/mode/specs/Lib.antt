pub mod Cmac
pub mod Hash
pub mod Enciphering
pub mod Sealing
pub mod Bundles
pub mod Calls
pub mod Laws
pub mod Keys
