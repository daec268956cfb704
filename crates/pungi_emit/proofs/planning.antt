-- The places that statements lead to.
pub mod LabelsFound
pub mod PlanLists
pub mod Plans
pub mod Surveys
