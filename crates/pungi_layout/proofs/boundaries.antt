-- No temporary is kept where one statement's instructions end and another's begin.
pub mod Places
pub mod FirstTokens
pub mod Signs
pub mod Calls
pub mod Exprs
pub mod Stmts
pub mod Heads
