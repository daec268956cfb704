pub mod RowLemmas
pub mod SignatureLemmas
