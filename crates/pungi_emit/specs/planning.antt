-- The places that statements lead to.
pub mod LabelPlaces
pub mod Plans
pub mod Surveys
