pub mod Calls
pub mod Choices
pub mod Counts
pub mod Effects
pub mod Escapes
pub mod Follows
pub mod Slots
pub mod World
