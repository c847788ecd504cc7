use native.Mathlib.Omega.{arith}
use Rattle.std.specs.Prelude.{◌≡◌, ◌*◌, ◌/◌, ◌%◌, ◌≤◌, length}
use Rattle.characters.proofs.Counted.{none_left, last_from}
use borrow.Author.Rules.{rules}
use Rattle.counting.proofs.inner.left_over.Goals as goal

pub returns-then-n-eq0 : goal.returns-then-n-eq0
returns-then-n-eq0 c = let t = c.args.text.now in
    let l : length t ≤ 8 * (length t / 8) = omega arith in
    (none_left t (8 * (length t / 8)) l, omega arith)

pub returns-then-text-lt8 : goal.returns-then-text-lt8
returns-then-text-lt8 c = let t = c.args.text.now in
    let e : 8 * (length t / 8) ≡ 0 = omega arith in
    (rw e c.count.ensures.0, omega arith)

pub returns : goal.returns
returns c = let t = c.args.text.now in
    (last_from t (8 * (length t / 8)) (length t % 8) c.count_last.result (omega arith) c.count_last.ensures.0, search rules)
