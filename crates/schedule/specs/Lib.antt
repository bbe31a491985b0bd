pub mod Graphs
pub mod Edges
pub mod Plans
pub mod Serving
pub mod Lines
pub mod Placements
pub mod Walking
pub mod Scheduling
