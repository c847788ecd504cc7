-- play_program
pub mod Program
