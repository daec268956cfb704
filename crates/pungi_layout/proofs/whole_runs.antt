-- Whole runs: the code of a function runs as the function does.
pub mod LessLeftExprs
pub mod LessLeft
pub mod WeightCounts
pub mod WholeRuns
pub mod Behaves
