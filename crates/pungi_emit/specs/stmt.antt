-- The instructions of statements.
pub mod Cases
pub mod Emits
