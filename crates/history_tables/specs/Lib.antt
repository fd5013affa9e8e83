pub mod Begins
pub mod Numbering
pub mod NodeRows
pub mod WorkRows
pub mod PlanRows
pub mod Openings
pub mod JobRows
