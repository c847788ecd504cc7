use native.Mathlib.Omega.{arith}
use Rattle.characters.proofs.Runs.{eight_num}
use borrow.Author.Rules.{rules}
use Rattle.counting.proofs.inner.count_in.Goals as goal

pub returns-then-are_ascii : goal.returns-then-are_ascii
returns-then-are_ascii c = (search (eight_num, rules), omega arith)
