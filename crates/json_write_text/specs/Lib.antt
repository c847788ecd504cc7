-- json_write_text
pub mod InnerPutting
