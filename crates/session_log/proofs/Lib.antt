-- log
pub mod Rows
pub mod Opening
pub mod Scanning
pub mod Logs
