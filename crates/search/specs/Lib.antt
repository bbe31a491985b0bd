pub mod Rows
pub mod Arrivals
pub mod Listings
