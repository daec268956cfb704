-- In the order of reading: code, relation, simulation, whole_runs, liveness, boundaries, well_formed. The file named
-- after a folder says what is in it.
pub mod code
pub mod relation
pub mod simulation
pub mod whole_runs
pub mod liveness
pub mod boundaries
pub mod well_formed
