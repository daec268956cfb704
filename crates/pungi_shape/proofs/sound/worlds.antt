-- What calls, loads and stores do to a world: how far the count of an object is from the references to it that escaped,
-- and what slots hold.
pub mod Debts
pub mod Values
pub mod Places
pub mod SlotKinds
pub mod Touches
pub mod Outcomes
pub mod Calls
