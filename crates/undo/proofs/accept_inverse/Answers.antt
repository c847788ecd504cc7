use Rattle.std.proofs.lemmas.Result.{err_from_is_err_and}
use Rattle.undo.proofs.Inverting.{before_inside, before_fault, before_base, inverse_refused, inverse_fault, inverse_base, inverse_accepted}
use borrow.Author.Rules.{rules}
use Rattle.undo.proofs.accept_inverse.Goals as goal

pub slice_bounds-inverted-count : goal.slice_bounds-inverted-count
slice_bounds-inverted-count c = search before_inside

pub slice_bounds-inverted-start : goal.slice_bounds-inverted-start
slice_bounds-inverted-start c = search (before_inside, rules)

pub inverted-requires : goal.inverted-requires
inverted-requires c = (search before_fault, search rules, search before_base)

pub admit_inverse-requires : goal.admit_inverse-requires
admit_inverse-requires c = let w = c.in_ok-inverted.was in (search (inverse_fault, w), search rules, search rules, search (inverse_base, w))

pub returns-in_err-inverted : goal.returns-in_err-inverted
returns-in_err-inverted c = let p = err_from_is_err_and c.from_residual.result c.from_residual.ensures.1 in rw (p.1, p.2) (search (inverse_refused, c.in_err-inverted.was))

pub returns : goal.returns
returns c = search (inverse_accepted, c.in_ok-inverted.was)
