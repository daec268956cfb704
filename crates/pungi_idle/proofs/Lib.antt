pub mod Naming
pub mod Restoring
pub mod Runs
pub mod Entering
pub mod SameKinds
pub mod Formed
pub mod Alike
