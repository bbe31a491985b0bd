pub mod Answering
pub mod Filling
pub mod Bridging
pub mod Running
pub mod Nesting
