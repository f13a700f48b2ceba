pub mod Layouts
pub mod Meaning
pub mod Wording
pub mod Answers
