pub mod ListLemmas
pub mod RunLemmas
pub mod SegmentLemmas
pub mod LocalLemmas
pub mod NewestLemmas
pub mod SlotLemmas
