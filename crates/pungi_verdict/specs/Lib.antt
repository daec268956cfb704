pub mod Sound
pub mod Refusals
pub mod Relations
pub mod Across
pub mod Causes
pub mod Verdicts
pub mod Replays
