pub mod Rings
pub mod Known
pub mod Rules
pub mod Laws
