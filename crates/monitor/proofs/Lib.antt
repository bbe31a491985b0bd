pub mod Known
pub mod Reading
pub mod Calling
pub mod Standing
