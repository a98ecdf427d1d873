pub mod MoveSteps
