-- play_program
pub mod Programs
pub mod Ships
