-- json_values
pub mod Numbers
pub mod Valued
