pub mod FaultLemmas
pub mod InFormatLemmas
pub mod OutFormatLemmas
