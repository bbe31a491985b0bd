pub mod Wide
pub mod Division
