pub mod LocalLog
pub mod ScopeEnv
pub mod Frames
pub mod CasesView
