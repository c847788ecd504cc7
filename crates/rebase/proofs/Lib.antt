-- rebase
pub mod Stages
pub mod Moving
