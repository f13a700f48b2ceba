pub mod FindBegins
pub mod FindReading
