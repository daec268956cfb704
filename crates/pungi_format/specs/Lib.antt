pub mod FormatFault
pub mod InFormat
pub mod OutFormat
