-- json_lists
pub mod Form
pub mod Grammar
pub mod Written
pub mod Calls
pub mod InnerRuns
