-- The instructions of statements.
pub mod Actions
pub mod Decls
pub mod Cases
pub mod StmtCode
pub mod Room
