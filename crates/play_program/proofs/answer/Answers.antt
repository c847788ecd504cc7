use Rattle.play_program.proofs.Programs.{program_written, program_refused}
use Rattle.play_program.proofs.answer.Goals as goal

pub returns-in-Ok : goal.returns-in-Ok
returns-in-Ok c = search program_written

pub returns-in-Err : goal.returns-in-Err
returns-in-Err c = search program_refused
