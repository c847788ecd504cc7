use Rattle.play_program.proofs.Programs.{complain_short, complain_long}
use Rattle.play_program.proofs.complain.Goals as goal

pub returns-then-k-lt10 : goal.returns-then-k-lt10
returns-then-k-lt10 c = search complain_short

pub returns-else-k-lt10 : goal.returns-else-k-lt10
returns-else-k-lt10 c = search complain_long
