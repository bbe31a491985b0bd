pub mod Offering
pub mod Listing
