-- What the definitions say of whole small files, by computing. The expected values come from a reading of the rules of
-- its own.
pub mod Words
pub mod Files
pub mod Faults
pub mod Types
pub mod Exprs
pub mod Formats
pub mod Made
pub mod Stmts
pub mod Conventions
