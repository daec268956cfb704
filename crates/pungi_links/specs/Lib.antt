pub mod Chains
pub mod Ring
pub mod Pending
