pub mod Layouts
pub mod Climbs
pub mod Sizes
pub mod Orders
