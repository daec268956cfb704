pub mod CallLemmas
pub mod CountLemmas
pub mod FollowLemmas
pub mod SlotLemmas
pub mod TakeLemmas
