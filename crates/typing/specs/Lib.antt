pub mod Scopes
pub mod Rules
pub mod Typing
pub mod Judging
pub mod WellTyped
