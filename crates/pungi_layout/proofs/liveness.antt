-- No instruction reads a temporary that was not written before.
pub mod FoundPlaces
pub mod Paths
pub mod Places
pub mod Calls
pub mod Exprs
pub mod Values
pub mod Stmts
