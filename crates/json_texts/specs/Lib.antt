-- json_texts
pub mod InnerTexts
