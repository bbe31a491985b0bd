pub mod Count
pub mod Cut
pub mod Rings
pub mod Lowest
pub mod Through
pub mod Unique
