use Rattle.std.specs.Prelude.{◌≡◌, ◌≤◌, length}
use mathlib.Core.Path.{sym, ap, ◌∙◌}
use native.Mathlib.Omega.{arith}
use lib.ListN.{drop_of_length-le}
use Rattle.characters.specs.Chars.{number_of_chars}
use Rattle.characters.proofs.Marked.{told_all}
use borrow.Author.Rules.{rules}
use Rattle.counting.proofs.inner.tail.Goals as goal

pub returns-then-text-from : goal.returns-then-text-from
returns-then-text-from c = let a = c.args in
    let l : length a.text.now ≤ a.from = omega arith in
    (sym (ap number_of_chars (drop_of_length-le a.text.now l)), search rules)

pub returns-then-text-lt8 : goal.returns-then-text-lt8
returns-then-text-lt8 c = let a = c.args in
    let e : a.from ≡ 0 = omega arith in
    (rw e c.count_block.ensures.0, omega arith)

pub returns : goal.returns
returns c = let a = c.args in
    told_all a.text.now a.from c.rest.result (omega arith) (c.rest.ensures ∙ c.eight-c.ensures.0.same ∙ c.sixteen-b.ensures.0.same ∙ c.thirty_two-a.ensures.0.same)
