-- In the order of reading: Reading, Gives, Reads, tokens, types, expr, Readers, ReaderParts, stmt, item, Units, Faults.
-- The file named after a folder says what is in it.
pub mod Reading
pub mod Gives
pub mod Reads
pub mod tokens
pub mod types
pub mod expr
pub mod Readers
pub mod ReaderParts
pub mod stmt
pub mod item
pub mod Units
pub mod Faults
