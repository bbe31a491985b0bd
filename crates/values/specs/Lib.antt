pub mod Types
pub mod Codes
pub mod Values
pub mod Bytes
pub mod Texts
