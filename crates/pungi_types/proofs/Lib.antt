pub mod ArgumentLemmas
pub mod FormatLemmas
pub mod PassedLemmas
pub mod TailLemmas
