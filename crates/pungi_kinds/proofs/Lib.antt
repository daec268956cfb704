-- In the order of reading.
pub mod ValueLemmas
pub mod AtomLemmas
pub mod WorldLemmas
pub mod CallLemmas
pub mod SlotLemmas
pub mod TakenLemmas
pub mod Steps
pub mod Instructions
pub mod Performed
pub mod OperationLemmas
pub mod WholeRuns
pub mod Trees
