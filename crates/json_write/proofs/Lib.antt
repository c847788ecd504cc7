-- json_write
pub mod Numbers
pub mod Values
pub mod Lists
