-- operational_transform
pub mod Exchange
pub mod Examples
pub mod Results
pub mod Laws
pub mod Unread
