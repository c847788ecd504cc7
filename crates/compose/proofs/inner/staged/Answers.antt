use Rattle.std.proofs.lemmas.Result.{err_from_is_err_and}
use Rattle.compose.proofs.Looping.{sized_under, sized_done, sized_staged, composes_refused, composes_written}
use borrow.Author.Rules.{rules}
use Rattle.compose.proofs.inner.staged.Goals as goal

pub limits_then_room-requires : goal.limits_then_room-requires
limits_then_room-requires c = search sized_under

pub place-requires : goal.place-requires
place-requires c = let d = c.compose_into-z.ensures in
    let p = c.sized-e.ensures in
    (search rules, search rules, search rules, sized_under c.args.a.now c.args.b.now _ _ _ _ _ _ d p, sized_staged c.args.a.now c.args.b.now _ _ _ _ _ _ d p (search rules))

pub returns-in_err-k : goal.returns-in_err-k
returns-in_err-k c = let p = err_from_is_err_and c.from_residual.result c.from_residual.ensures.1 in
    let d = sized_done c.args.a.now c.args.b.now _ _ _ _ _ _ c.compose_into-z.ensures c.sized-e.ensures in
    rw (p.1, p.2) (search (composes_refused, c.in_err-k.was))

pub returns : goal.returns
returns c = let d = sized_done c.args.a.now c.args.b.now _ _ _ _ _ _ c.compose_into-z.ensures c.sized-e.ensures in
    composes_written _ _ _ c.requires.0.passed_a c.requires.0.passed_b c.requires.2 _ _ _ d _ c.limits_then_room.ensures _ _ c.in_ok-k.was c.place.ensures
