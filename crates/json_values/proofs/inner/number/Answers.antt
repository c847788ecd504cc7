use Rattle.std.proofs.Common.{◌≡◌, length, arith}
use Rattle.json_values.proofs.Numbers.{counted_first, counted_under, counted_over, counted_more, counted_whole}
use borrow.Author.Rules.{rules}
use Rattle.json_values.proofs.inner.number.Goals as goal

pub loop-i-init : goal.loop-i-init
loop-i-init c = (search counted_first, search rules)

pub returns-then-b-lt48 : goal.returns-then-b-lt48
returns-then-b-lt48 c = search counted_under

pub returns-then-b-gt57 : goal.returns-then-b-gt57
returns-then-b-gt57 c = search counted_over

pub loop-i-preserved : goal.loop-i-preserved
loop-i-preserved c = (search counted_more, search rules)

pub returns : goal.returns
returns c = let e : length c.args.list.now ≡ c.loop-i.i = omega arith in search counted_whole
