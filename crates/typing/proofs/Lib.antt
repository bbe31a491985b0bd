pub mod Scoping
pub mod Shapes
pub mod WellTyped
