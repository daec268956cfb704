pub mod Calls
pub mod MemShelf
pub mod MemSink
pub mod SureShelf
pub mod SureSink
