pub mod Lowered
pub mod TypedLaws
