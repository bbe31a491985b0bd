pub mod Calls
pub mod Days
