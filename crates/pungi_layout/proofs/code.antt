-- How many instructions an expression and a statement have, how many levels, and how many variables a code has.
pub mod ExprLengths
pub mod StmtLengths
pub mod LevelLemmas
pub mod VarLengths
