-- The readers of items are sound and complete, and so is the loop over the items of a file.
pub mod TypedefScan
pub mod ItemSound
pub mod ItemComplete
pub mod UnitLoop
