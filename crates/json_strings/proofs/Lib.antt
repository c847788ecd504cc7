-- json_strings
pub mod Words
pub mod Spans
