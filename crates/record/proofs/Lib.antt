-- record
pub mod Sequences
pub mod Faults
pub mod Records
pub mod Cases
pub mod Walks
pub mod Checked
pub mod Theorems
pub mod Unread
