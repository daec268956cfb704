pub mod DropLemmas
pub mod FrameLemmas
pub mod ParamPlaces
pub mod ScopeLemmas
pub mod StmtViews
