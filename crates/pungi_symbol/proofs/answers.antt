-- What an answer leaves of a state.
pub mod EachAnswer
pub mod LaterMarks
pub mod Conversions
pub mod Apart
pub mod CountedSteps
pub mod TakenOver
pub mod Fits
pub mod LimitsMet
pub mod NextStates
pub mod OnlyNext
pub mod Reached
pub mod SoundNotes
pub mod Made
pub mod SameObject
