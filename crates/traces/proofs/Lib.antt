pub mod Turns
pub mod Sound
pub mod Accepted
pub mod Left
pub mod Refusing
