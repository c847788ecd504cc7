-- json_escapes
pub mod InnerEscapes
