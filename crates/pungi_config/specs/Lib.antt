pub mod Command
pub mod Configuration
pub mod Conventions
pub mod Keys
pub mod Limits
pub mod Takes
pub mod Words
pub mod Wrong
