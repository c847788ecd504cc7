-- json_read
pub mod InnerReading
