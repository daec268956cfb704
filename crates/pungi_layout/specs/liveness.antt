-- Which temporaries are kept, and where none is.
pub mod Liveness
pub mod Boundaries
