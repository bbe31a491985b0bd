pub mod Reading
pub mod Written
pub mod Rows
pub mod Traces
pub mod Opening
pub mod Refusing
