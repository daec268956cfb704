-- In the order of reading: what an instruction names, the idle code, entries, its laws.
pub mod Named
pub mod IdleCode
pub mod RestoredRun
pub mod Laws
