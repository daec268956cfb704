-- What tokens stand for, what is known at a step of a run, and how far a path goes through loops.
pub mod Terms
pub mod Known
pub mod Turns
pub mod NumberPlaces
pub mod Vars
