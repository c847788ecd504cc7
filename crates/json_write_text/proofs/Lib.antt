-- json_write_text
pub mod Putting
pub mod Escapes
pub mod Texts
