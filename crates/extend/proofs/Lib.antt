-- extend
pub mod Growing
pub mod Settling
