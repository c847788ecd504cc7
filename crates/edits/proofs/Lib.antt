-- edits
pub mod Links
pub mod Meaning
pub mod Building
pub mod Composing
pub mod Aligning
pub mod Kept
pub mod Marks
pub mod Traces
pub mod Effects
pub mod Pace
pub mod Unique
pub mod Claims
pub mod Together
pub mod Symmetry
pub mod Theorems
pub mod Standing
