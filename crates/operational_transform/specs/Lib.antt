-- operational_transform
pub mod Calls
