pub mod PlanSteps
pub mod SplitSteps
