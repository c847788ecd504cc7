-- json_values
pub mod InnerValues
