-- Lists of instructions.
pub mod Lists
