pub mod Congruence
pub mod Wrapping
pub mod Decoding
pub mod Encoding
