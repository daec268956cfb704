-- In the order of reading: what a copy names, where copies go, the copies, the code with copies, its laws.
pub mod Moved
pub mod Sites
pub mod Copies
pub mod Inlined
pub mod Laws
pub mod Places
pub mod FirstCall
