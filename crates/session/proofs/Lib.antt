-- session
pub mod Rows
pub mod Moving
pub mod Accepting
pub mod Inverting
pub mod Undoing
pub mod UndoAccepts
pub mod Running
pub mod Newest
pub mod Meeting
pub mod Demands
pub mod Carrying
pub mod Keeping
pub mod Examples
pub mod Unread
pub mod Playing
pub mod Undos
pub mod Standing
