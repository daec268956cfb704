pub mod worked
pub mod Places
pub mod Agreement
pub mod SameKinds
pub mod SameExprs
pub mod SameStmts
pub mod SameFunctions
pub mod FindsExprs
pub mod FindsStmts
pub mod FindsFunctions
pub mod Monotone
pub mod Least
pub mod CallerLemmas
pub mod MarkLemmas
pub mod ReachLemmas
pub mod CountLemmas
pub mod SeenLemmas
mod DistinctLemmas
mod FaultRules
mod GatherLemmas
mod GraphLemmas
pub mod OwnLemmas
mod RefusedSet
mod FindingAt
mod CallsNone
