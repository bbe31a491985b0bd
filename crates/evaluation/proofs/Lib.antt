pub mod Agreeing
pub mod Levels
pub mod Kept
pub mod Ranges
