use Rattle.std.proofs.Common.{◌*◌, take, drop}
use Rattle.characters.specs.InnerAscii.{Tops}
use Rattle.ascii.proofs.inner.are_ascii.Given as goal

abbrev pub invariant-loop-k : goal.invariant-loop-k
invariant-loop-k g l = Tops l.all (take (8 * l.k) (drop l.at l.text))
