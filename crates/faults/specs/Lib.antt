pub mod Causes
pub mod Faults
pub mod Lines
pub mod Stops
