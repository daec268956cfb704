-- What it is for a code to run as its function does.
pub mod Weights
pub mod Correct
