-- steps
pub mod InnerBoth
pub mod InnerSides
pub mod InnerSteps
