pub mod Arguments
pub mod Sinks
pub mod Bells
pub mod Ledgers
pub mod Quotas
pub mod Offers
