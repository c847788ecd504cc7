-- json_strings
pub mod InnerStrings
