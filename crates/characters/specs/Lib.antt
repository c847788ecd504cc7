-- characters
pub mod Form
pub mod Chars
pub mod Text
pub mod Scalar
pub mod Order
pub mod InnerPlaces
pub mod InnerAscii
pub mod InnerMarks
pub mod InnerPassed
pub mod InnerBlock
