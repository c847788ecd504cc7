-- json_escapes
pub mod Digits
pub mod Escaping
pub mod Scanning
