pub mod Fitting
pub mod Ring
pub mod Ticking
pub mod Only
pub mod Keeping
pub mod Stepping
pub mod Opening
pub mod Tables
