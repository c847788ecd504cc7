-- json_measure
pub mod InnerSizes
