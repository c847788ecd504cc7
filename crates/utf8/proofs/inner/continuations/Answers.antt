use Rattle.std.specs.Prelude.{◌<◌, get_or}
use native.Mathlib.Omega.{arith}
use Rattle.utf8.proofs.SingleChars.{char_bad, char_few, char_cut, char_there}
use borrow.Author.Rules.{rules}
use Rattle.utf8.proofs.inner.continuations.Goals as goal

pub returns-in_default : goal.returns-in_default
returns-in_default c = search char_bad

pub due-requires : goal.due-requires
due-requires c = (search rules, search char_few)

pub returns-then-not-due : goal.returns-then-not-due
returns-then-not-due c = search char_cut

pub returns : goal.returns
returns c = let a = c.args in
    let u : get_or a.text.now a.at 0 < 256 = omega (arith, c.shared_slice_known-1.given a.at) in
    search char_there
