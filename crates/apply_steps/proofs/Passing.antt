-- From one character to one some characters behind it, along with the operations that take them.
use Rattle.std.specs.Prelude.{◌≡◌, ℕ, ◌+◌, ◌-◌, ◌<◌, ◌≤◌, Bool, true, false, T, eqb, List, length, drop}
use Prim.Native.Nat.{zero-le}
use native.Mathlib.Omega.{arith}
use mathlib.Core.Path.{refl, sym, ap, ◌∙◌}
use borrow.Author.Tests.{eqb-true, eqb-false}
use lib.ListN.{length-drop}
use Rattle.characters.specs.Form.{is_well_formed}
use Rattle.characters.specs.Chars.{number_of_chars, take_chars}
use Rattle.characters.specs.InnerPlaces.{Passes}
use Rattle.characters.proofs.Chars.{num_le}
use Rattle.characters.specs.Text.{Char, chars}
use Rattle.characters.proofs.Places.{passes_rest, skips, skips_plain}
use Rattle.characters.proofs.Texts.{chars_length}
use Rattle.edits.specs.Op.{Op, takes, base}
use Rattle.record.specs.InnerFront.{ops_left}
use Rattle.record.specs.Layout.{op_count_of, kind_at, count_at, base_of, start_of_text}
use Rattle.record.specs.Record.{record_fault}
use Rattle.record.proofs.Records.{ops_base}
use Rattle.reader.proofs.Fronts.{Begins, begins_none, begins_retain, begins_delete, place_start, ops_start}
use Rattle.apply_steps.specs.InnerSteps.{TakesRest, Along}

module _ (t : List ℕ) (at k : ℕ) (h : at ≤ length t) (w : T (is_well_formed (drop at t))) where
  pub passes_plain : (n : ℕ) → n ≡ number_of_chars t → n ≡ length t → k ≤ number_of_chars (drop at t) → Passes t at k (at + k)
  passes_plain n p q l = skips_plain t at k h w (sym p ∙ q) (at + k) (omega (arith, num_le (drop at t), length-drop at t))

  pub passes_skip : (to : ℕ) → to ≡ at + length (take_chars k (drop at t)) → Passes t at k to
  passes_skip = skips t at k h w

  pub ends_text : (left : ℕ) → TakesRest t at k left → left ≡ 1 → Passes t at k (length t)
  ends_text left r e = passes_rest t at k h w (r.rest e)

-- ---- a record and a text gone through

-- behind the first of the operations ahead, which takes the characters up to `end`
pub along_next : (r t : List ℕ) (k from at : ℕ) (o : Op Char) (to end : ℕ) → Along r t k from at → Begins r k from o to → Passes t at (takes o) end → Along r t (k + 1) to end
along_next r t k from at o to end g b v =
    record {
      place = b.place;
      inside = v.below;
      well = v.well;
      takes_all = ap length v.left ∙ length-drop (takes o) (chars (drop at t)) ∙ omega (arith, g.takes_all, ap base b.has);
    }

pub along_start : (r t : List ℕ) (n from : ℕ) → record_fault r ≡ 0 → T (is_well_formed t) → number_of_chars t ≡ base_of r → n ≡ op_count_of r → from ≡ start_of_text n → Along r t 0 from 0
along_start r t n from z w e p q =
    record {
      place = place_start r n from z p q;
      inside = zero-le;
      well = w;
      takes_all = chars_length t w ∙ e ∙ sym (ops_base r z) ∙ ap base (sym (ops_start r n from z p q));
    }

-- the text has the characters that operation k takes, a retain or a delete; the last operation takes all
module _ (r t : List ℕ) (n k from at kind count : ℕ) (g : Along r t k from at) (p : n ≡ op_count_of r) (h : k < n) (q : kind ≡ kind_at r k) (c : count ≡ count_at r k) (small : count < 65536) (z : kind ≡ 2 → ⊥) where
  -- what it leaves to the others
  leaves : number_of_chars (drop at t) ≡ count + base (ops_left r (k + 1) from)
  leaves = go (eqb kind 1) refl
    where
      go : (b : Bool) → eqb kind 1 ≡ b → number_of_chars (drop at t) ≡ count + base (ops_left r (k + 1) from)
      go true y = sym (chars_length (drop at t) g.well) ∙ g.takes_all ∙ ap base (begins_retain r n k from kind count p g.place h q c small (eqb-true kind 1 y)).has
      go false y = sym (chars_length (drop at t) g.well) ∙ g.takes_all ∙ ap base (begins_delete r n k from kind count p g.place h q c small (eqb-false kind 1 y) z).has

  pub along_room : count ≤ number_of_chars (drop at t)
  along_room = omega (arith, leaves)

  pub along_rest : TakesRest t at count (n - k)
  along_rest = record { rest = λ e. omega (arith, leaves, ap base (begins_none r n (k + 1) from p (omega arith))) }
