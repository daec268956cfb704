-- The readers of expressions are sound and complete.
pub mod Choices
pub mod Readings
pub mod ArgLoop
pub mod PostfixLoop
pub mod ClimbLoop
pub mod CommaLoop
pub mod ReadAt
pub mod ExprSound
pub mod ClimbSound
pub mod ExprSteps
pub mod PostfixComplete
pub mod OperatorEnds
pub mod TightComplete
pub mod AllRead
pub mod TypeExprTheorems
