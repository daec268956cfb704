-- In the order of reading: what holds a kind, what an instruction takes, operations, runs, the laws.
pub mod Contents
pub mod Taken
pub mod Operations
pub mod Runs
pub mod Laws
