pub mod States
pub mod Samples
pub mod Showing
pub mod Delivering
pub mod Refusals
pub mod Histories
pub mod Standing
