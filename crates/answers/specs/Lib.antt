-- answers
pub mod Answer
pub mod Output
pub mod Given
pub mod InnerGiven
