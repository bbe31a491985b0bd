pub mod Rows
pub mod Steps
pub mod Layers
pub mod Searches
pub mod Backwards
pub mod Decided
