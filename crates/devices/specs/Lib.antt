pub mod Pollers
pub mod Relays
