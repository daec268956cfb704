pub mod Bounds
pub mod Constraint
pub mod Held
pub mod Round
pub mod Search
