-- One token at the front, lists of words, and where reading stops.
pub mod Ends
pub mod Eaten
pub mod WordReadings
pub mod WordLoops
pub mod FirstTokens
