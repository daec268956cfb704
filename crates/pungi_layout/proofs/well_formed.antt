-- The code of a function whose parts are of the kinds that they need is well-formed.
pub mod Both
pub mod Instructions
pub mod Columns
pub mod Operands
pub mod Calls
pub mod Exprs
pub mod JumpPlaces
pub mod Stmts
pub mod Slots
pub mod Variables
pub mod FunctionCode
pub mod HeadOrder
pub mod Entries
