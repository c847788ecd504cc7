-- inserts
pub mod InnerTexts
