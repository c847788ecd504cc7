use Rattle.play_program.proofs.Programs.{program_long, program_unreadable, found_reads, found_size, found_inside}
use borrow.Author.Rules.{rules}
use Rattle.play_program.proofs.play_input.Goals as goal

pub returns-then-input-gt-MAX_INPUT : goal.returns-then-input-gt-MAX_INPUT
returns-then-input-gt-MAX_INPUT c = search program_long

pub returns-in_default : goal.returns-in_default
returns-in_default c = search program_unreadable

pub answer-requires : goal.answer-requires
answer-requires c = (search rules, search found_reads, search found_size, search found_inside, search rules)
