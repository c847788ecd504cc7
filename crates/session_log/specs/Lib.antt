-- log
pub mod Log
pub mod Open
pub mod InnerScan
pub mod InnerSteps
