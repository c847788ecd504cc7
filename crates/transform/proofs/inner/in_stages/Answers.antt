use Rattle.std.proofs.lemmas.Result.{err_from_is_err_and}
use Rattle.transform.proofs.Answering.{handed_on}
use Rattle.transform.proofs.inner.in_stages.Goals as goal

pub returns-in_err-k : goal.returns-in_err-k
returns-in_err-k g c = let p = err_from_is_err_and c.from_residual.result c.from_residual.ensures.1 in rw (p.1, p.2) (search (handed_on, c.in_err-k.was))

pub returns : goal.returns
returns g c = search (handed_on, c.in_ok-k.was)
