pub mod Meaning
pub mod Kept
