use Rattle.characters.proofs.Runs.{runs_join}
use Rattle.characters.proofs.Passed.{all_ascii, passed_first}
use Rattle.utf8.proofs.form_from.Goals as goal

pub returns-then-i-text : goal.returns-then-i-text
returns-then-i-text c = search (all_ascii, runs_join)

pub returns-then-j-text : goal.returns-then-j-text
returns-then-j-text c = search (all_ascii, runs_join)

pub begin-s-requires : goal.begin-s-requires
begin-s-requires c = search (passed_first, runs_join)
