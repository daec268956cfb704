mod Worked
pub mod ValueLemmas
pub mod RunLemmas
pub mod Longer
pub mod Simulation
pub mod AloneLemmas
