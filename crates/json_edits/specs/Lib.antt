-- json
pub mod InnerStages
