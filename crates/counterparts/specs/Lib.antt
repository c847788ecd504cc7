-- counterparts
pub mod InnerRunning
