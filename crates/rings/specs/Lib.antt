pub mod Systems
pub mod Memory
pub mod Calls
pub mod Steps
pub mod Laws
