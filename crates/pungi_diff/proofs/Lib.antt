pub mod BoundsLemmas
pub mod DepthLemmas
pub mod FringeLemmas
pub mod HeldLemmas
pub mod RelaxLemmas
pub mod RoundLemmas
pub mod SearchLemmas
