-- invert
pub mod InnerDeciding
