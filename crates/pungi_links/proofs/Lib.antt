pub mod RingLemmas
pub mod ChainsLemmas
pub mod WalkLemmas
pub mod PendingLemmas
