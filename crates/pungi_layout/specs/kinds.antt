-- Functions whose parts are of the kinds that they need, and what follows for their codes.
pub mod Typed
pub mod Laws
