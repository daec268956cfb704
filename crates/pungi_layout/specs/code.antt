-- Which instructions, variables and heads the code of a function has, and of which functions that is said.
pub mod CallKinds
pub mod Parts
pub mod Sizes
pub mod Temporaries
pub mod FirstTokens
pub mod ExprCode
pub mod Scopes
pub mod StmtCode
pub mod Sound
pub mod Levels
pub mod VarKinds
pub mod Heads
pub mod FunctionCode
pub mod Codes
