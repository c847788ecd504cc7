use Rattle.apply.proofs.Answers.{stopped, unchanged, once_0, once_out, apply_10, apply_0, apply_out}
use Rattle.apply.proofs.write.Goals as goal

pub returns-then-text-inserted : goal.returns-then-text-inserted
returns-then-text-inserted c = (search once_0, search once_out)

pub returns-then-out-size : goal.returns-then-out-size
returns-then-out-size c = stopped _ _ _ _ (search unchanged) (search apply_10)

pub returns : goal.returns
returns c = (search apply_0, search apply_out)
