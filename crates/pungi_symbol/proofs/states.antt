-- Terms, tokens and balances, by themselves and after a change.
pub mod Nodes
pub mod Contents
pub mod Terms
pub mod NamedObjects
pub mod Claims
pub mod Owed
pub mod HeldVars
