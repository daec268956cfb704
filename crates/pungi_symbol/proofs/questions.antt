-- What a call asks of its arguments, and the search among the touched slots.
pub mod Arguments
pub mod Firsts
pub mod Places
pub mod TouchedSlots
