pub mod Short
pub mod Rows
pub mod Meanings
pub mod Panels
pub mod Holds
pub mod Moves
pub mod Watching
