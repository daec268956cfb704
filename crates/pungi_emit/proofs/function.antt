-- The variables of a function.
pub mod VarKinds
