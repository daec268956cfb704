-- Any tree: its levels, how its tokens begin, of which kinds they are, and what is to be shown of it.
pub mod Levels
pub mod Fronts
pub mod Shorter
pub mod ExprKinds
pub mod StmtKinds
pub mod LowSound
pub mod Facts
