-- A loop of steps.
use Rattle.std.specs.Prelude.{◌≡◌, ℕ, suc, ◌+◌, ◌*◌, ◌^◌, ◌≤◌, false, List, [], length}
use native.Mathlib.Omega.{arith}
use mathlib.Core.Path.{refl, sym, ap, ap₂, ◌∙◌}
use Rattle.characters.specs.Text.{Char}
use Rattle.edits.specs.Op.{Op}
use Rattle.edits.specs.Sequence.{Seq}
use Rattle.edits.specs.Align.{Step}
use Rattle.edits.specs.Align as align
use Rattle.record.specs.Layout.{op_count_of}
use Rattle.record.specs.Record.{ops, record_fault}
use Rattle.record.specs.InnerFront.{ahead, Stands}
use Rattle.record.proofs.Records.{ops_length}
use Rattle.reader.proofs.Fronts.{ended_ahead, fault_few}
use Rattle.emitter.specs.InnerEmit.{Under, Rep}
use Rattle.emitter.proofs.Loops.{run_end}
use Rattle.emitter.proofs.Adding.{rep_start, under_start, under_more}
use Rattle.steps.specs.declared.inner.State.{State}
use Rattle.steps.specs.InnerSteps.{live_is, Begun, remaining, Went}
use Rattle.steps.proofs.Turning.{both_ended}

module _ (turn : Op Char → Op Char → align.Turn) (g : Step Char → Seq) where
  pub record Going (n : ℕ) (a b out0 : List ℕ) (s : State) (o : List ℕ) : Type 0 where
    pub stands_x : Stands a s.x
    pub stands_y : Stands b s.y
    pub turns : ℕ
    pub bound : turns + (length (ahead a s.x) + length (ahead b s.y)) ≤ 2048
    pub under : Under (540000 * turns) s.e
    pub acc : Seq
    pub rep : Rep n out0 acc s.e o
    pub left : remaining turn g acc (ahead a s.x) (ahead b s.y) ≡ remaining turn g [] (ops a) (ops b)

  pub going_start : (n : ℕ) (a b o : List ℕ) (s : State) → record_fault a ≡ 0 → record_fault b ≡ 0 → Begun a b s → Going n a b o s o
  going_start n a b o s za zb h =
      record {
        stands_x = h.stands_x;
        stands_y = h.stands_y;
        turns = 0;
        bound = omega (arith, ap length h.all_x, ap length h.all_y, ops_length a za, ops_length b zb, fault_few a (op_count_of a) za refl, fault_few b (op_count_of b) zb refl);
        under = rw h.empty under_start;
        acc = [];
        rep = rw h.empty (rep_start n o);
        left = ap₂ (remaining turn g []) h.all_x h.all_y;
      }

  module _ (n : ℕ) (a b out0 : List ℕ) (s : State) (o : List ℕ) (h : Going n a b out0 s o) where
    pub going_under : Under (2 ^ 38) s.e
    going_under = under_more (540000 * h.turns) (2 ^ 38) s.e (omega (arith, h.bound)) h.under

    pub going_more : (r : State) (o' : List ℕ) → Went turn g n a b s o r o' → Going n a b out0 r o'
    going_more r o' w =
        record {
          stands_x = w.stands_x;
          stands_y = w.stands_y;
          turns = suc h.turns;
          bound = omega (arith, h.bound, w.less);
          under = under_more (540000 * h.turns + 270000 * length w.given) (540000 * suc h.turns) r.e (omega (arith, w.few)) (w.adds.under (540000 * h.turns) h.under);
          acc = _;
          rep = w.adds.keeps out0 h.acc h.rep;
          left = sym (w.goes h.acc) ∙ h.left;
        }

    -- where nothing is left, all was built
    pub going_all : live_is s.x s.y ≡ false → h.acc ≡ remaining turn g [] (ops a) (ops b)
    going_all l =
        let (p, q) = both_ended s.x s.y l in
        sym (ap₂ (remaining turn g h.acc) (ended_ahead a s.x h.stands_x p) (ended_ahead b s.y h.stands_y q) ∙ run_end turn g h.acc) ∙ h.left
