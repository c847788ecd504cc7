-- json_read
pub mod Holding
pub mod Feeding
pub mod Listing
pub mod Opening
