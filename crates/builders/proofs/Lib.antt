-- builders
pub mod Extending
