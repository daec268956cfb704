pub mod Summaries
pub mod Solver
pub mod Duties
pub mod Calls
pub mod Stages
pub mod Turns
pub mod Worklist
pub mod Sent
