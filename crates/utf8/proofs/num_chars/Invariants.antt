use Rattle.std.proofs.Common.{◌*◌}
use Rattle.characters.proofs.Counted.{Counted}
use Rattle.utf8.proofs.num_chars.Given as goal

abbrev pub invariant-loop-k : goal.invariant-loop-k
invariant-loop-k l = Counted l.bytes (8 * l.k) l.n
