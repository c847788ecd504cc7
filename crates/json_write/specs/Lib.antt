-- json_write
pub mod InnerWriting
