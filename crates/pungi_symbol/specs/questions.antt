-- What the next instruction asks in a state.
pub mod NextQuestion
