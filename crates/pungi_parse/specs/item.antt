-- Reading what a file consists of (C11 6.9), and the words that its type definitions declare.
pub mod TypedefScan
pub mod UnitReader
