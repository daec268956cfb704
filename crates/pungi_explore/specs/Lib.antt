pub mod Traces
pub mod Explored
pub mod Visits
