-- Reading types, declarators and parameters (C11 6.7.2 to 6.7.7).
pub mod TypeReader
