pub mod Equations
pub mod Alarms
pub mod Laws
pub mod Examples
