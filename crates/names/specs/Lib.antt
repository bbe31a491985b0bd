pub mod Uses
pub mod Declaring
