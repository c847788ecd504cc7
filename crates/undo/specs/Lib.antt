-- undo
pub mod InnerUndoing
