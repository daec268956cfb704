-- Codes written by hand, with their places and edges. The expected values come from a reading of the rules, and are
-- written out before they are computed. Notation says how they are written.
pub mod Notation
pub mod Copies
pub mod Numbers
pub mod Objects
pub mod Calls
pub mod Made
pub mod Slots
pub mod Ends
pub mod Conventions
pub mod Loop
pub mod Functions
