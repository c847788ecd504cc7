use native.Mathlib.Omega.{arith}
use mathlib.Core.Path.{refl}
use Rattle.json_escapes.proofs.Escaping.{low_absent, low_there, low_none, low_less, low_more, low_pair}
use Rattle.json_escapes.proofs.inner.low_surrogate.Goals as goal

pub returns-then-not-starts_with : goal.returns-then-not-starts_with
returns-then-not-starts_with c = low_absent c.args.list.now c.args.at c.args.high c.starts_with.ensures.value c.if-not-starts_with.true

pub four_digits-requires : goal.four_digits-requires
four_digits-requires c = low_there c.args.list.now c.args.at c.args.high c.starts_with.ensures.value c.if-not-starts_with.false

pub returns-in_err-low : goal.returns-in_err-low
returns-in_err-low c = rw c.from_residual.ensures (low_none c.args.list.now c.args.at c.args.high c.starts_with.ensures.value c.if-not-starts_with.false c.in_err-low.ensures)

pub returns-in-56320-to-57343 : goal.returns-in-56320-to-57343
returns-in-56320-to-57343 c =
    low_pair c.args.list.now c.args.at c.args.high c.starts_with.ensures.value c.if-not-starts_with.false _ c.in_ok-low.ensures (omega arith) (omega arith) (omega arith) (omega arith) _ refl refl

pub returns-in_default : goal.returns-in_default
returns-in_default c = low_less c.args.list.now c.args.at c.args.high c.starts_with.ensures.value c.if-not-starts_with.false _ c.in_ok-low.ensures (omega arith)

pub returns-in_default-2 : goal.returns-in_default-2
returns-in_default-2 c = low_more c.args.list.now c.args.at c.args.high c.starts_with.ensures.value c.if-not-starts_with.false _ c.in_ok-low.ensures (omega arith)
