-- Reading declarations and statements (C11 6.7 and 6.8).
pub mod Table
pub mod StmtReader
pub mod Begun
