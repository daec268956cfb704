-- In the order of reading: Tools, ListLoop, tokens, trees, types, expr, stmt, item, twins, Parsed. The file named after
-- a folder says what is in it.
pub mod Tools
pub mod ListLoop
pub mod trees
pub mod twins
pub mod Parsed
