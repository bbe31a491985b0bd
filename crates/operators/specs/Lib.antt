pub mod Operators
pub mod Division
pub mod Minimums
