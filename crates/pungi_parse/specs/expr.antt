-- Reading expressions (C11 6.5).
pub mod ExprReader
