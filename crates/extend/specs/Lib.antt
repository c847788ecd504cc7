-- extend
pub mod InnerExtending
