-- Runs of a code, and when a run lies in a state.
pub mod Fits
pub mod OneInstruction
pub mod RunInState
pub mod JudgedForm
pub mod Paths
pub mod Numbers
pub mod AtZero
