use Rattle.std.specs.Prelude.{◌≡◌, ◌+◌, length}
use Rattle.record.specs.Record.{ops}
use Rattle.record.specs.InnerFront.{ahead}
use Rattle.steps.proofs.Looping.{GoingBoth}
use Rattle.rebase.proofs.Moving.{Moving}
use Rattle.rebase.proofs.inner.rebase.Given as goal

abbrev pub invariant-loop-next : goal.invariant-loop-next
invariant-loop-next l = GoingBoth l.slots l.slots l.cur l.rec l.initial.next l.initial.side l.b l.next l.side × (length l.next ≡ length l.initial.next) × (length l.side ≡ length l.initial.side)

abbrev pub decreases-loop-next : goal.decreases-loop-next
decreases-loop-next l = length (ahead l.cur l.b.x) + length (ahead l.rec l.b.y)

abbrev pub invariant-run : goal.invariant-run
invariant-run l =
    Moving (ops l.edit) l.log l.from l.n l.left l.spot l.cur l.initial.parts l.parts × (length l.cur ≡ length l.initial.cur) × (length l.next ≡ length l.initial.next) × (length l.side ≡ length l.initial.side) × (length l.parts ≡ length l.initial.parts)

abbrev pub decreases-run : goal.decreases-run
decreases-run l = l.left
