use mathlib.Core.Path.{refl}
use Rattle.std.proofs.lemmas.Result.{err_from_is_err_and}
use Rattle.characters.proofs.Passed.{form_holds}
use Rattle.record.proofs.Checked.{passed}
use Rattle.apply.proofs.Answers.{stopped, apply_refused, apply_3, apply_8, agree}
use Rattle.apply.proofs.apply.Goals as goal

pub returns-in_err-check : goal.returns-in_err-check
returns-in_err-check c = let p = err_from_is_err_and c.from_residual.result c.from_residual.ensures.1 in rw (p.1, p.2) (stopped _ _ _ _ refl (search (apply_refused, c.in_err-check.was)))

pub returns-in_default : goal.returns-in_default
returns-in_default c = stopped _ _ _ _ refl (search (apply_3, c.in_ok-check.was))

pub base-base-requires : goal.base-base-requires
base-base-requires c = search (passed, c.in_ok-check.was)

pub returns-then-chars-base : goal.returns-then-chars-base
returns-then-chars-base c = stopped _ _ _ _ refl (search (apply_8, c.in_ok-check.was))

pub write-requires : goal.write-requires
write-requires c = (search (passed, c.in_ok-check.was), search form_holds, search agree)
