-- In the order of reading: code, alike, liveness, kinds. The file named after a folder says what is in it.
pub mod code
pub mod alike
pub mod liveness
pub mod kinds
