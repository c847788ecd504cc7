-- edits
pub mod Op
pub mod Built
pub mod Sequence
pub mod Build
pub mod Apply
pub mod Align
pub mod Compose
pub mod Transform
pub mod Trace
pub mod Origins
pub mod Invert
