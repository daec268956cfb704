-- The readers of declarations and statements are sound and complete.
pub mod Tables
pub mod TableTheorems
pub mod Vars
pub mod DeclFronts
pub mod DeclSound
pub mod DeclComplete
pub mod StmtBegins
pub mod GoesOn
pub mod Blocks
pub mod StmtSteps
pub mod StmtSound
pub mod StmtComplete
