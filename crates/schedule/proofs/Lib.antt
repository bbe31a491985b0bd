mod Describing
pub mod Standing
mod Placing
pub mod Carrying
mod Measuring
pub mod Taking
pub mod Serving
mod Scheduling
