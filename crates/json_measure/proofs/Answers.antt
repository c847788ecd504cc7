-- From what is found to the answer.
use Rattle.std.specs.Prelude.{◌≡◌, ℕ, ◌+◌, ◌≤◌, List, [], ◌∷◌, Result, Ok, Err, Option, Some, None}
use native.Mathlib.Omega.{arith}
use mathlib.Core.Path.{refl, ap₂}
use Rattle.answers.specs.Answer.{refused, success, number, answer_of}
use Rattle.answers.specs.declared.Refusal.{Refusal}
use Rattle.answers.specs.declared.Refusal.TheVariants.{Utf8}
use Rattle.record.specs.Record.{text_of, ops}
use Rattle.record.specs.Calls.{check_call}
use Rattle.record.proofs.Checked.{same_refusal, passed}
use Rattle.record.proofs.Records.{text_length}
use Rattle.entries.specs.InnerTally.{HasEntries, sum_of}
use Rattle.operation.specs.declared.inner.Totals.{Totals}
use Rattle.operation.specs.InnerEntered.{entered_of}
use Rattle.operation.proofs.Answers.{check_2, check_3, totals_ops, totals_few, totals_sound}
use Rattle.json_lists.proofs.Lengths.{escaped_all_length, extra_bytes_most}
use Rattle.json_measure.specs.declared.inner.Texts.{Texts}
use Rattle.json_measure.specs.InnerSizes.{entry_frame, marks_of, inserts_of, measure_call}
use Rattle.json_measure.proofs.Inserts.{found_ill, found_bytes}
use Rattle.json_measure.proofs.Values.{list_bytes}

pub entries_refused : (r : List ℕ) (e : Result Totals Refusal) → e ≡ entered_of r → (x : Refusal) → e ≡ Err x → refused (number x) ≡ measure_call r
unfolding measure_call
entries_refused r e p x q = same_refusal r (Err x) (check_2 r e p x q) x _ refl

pub sums_refused : (r : List ℕ) (f : Result ℕ Refusal) → answer_of f ≡ check_call r → (x : Refusal) → f ≡ Err x → refused (number x) ≡ measure_call r
unfolding measure_call
sums_refused r f p x q = same_refusal r f p x _ q

module _ (r : List ℕ) (t : Totals) (pt : Ok t ≡ entered_of r) where
  pub totals_entries : HasEntries r t.ops
  totals_entries = record { count_is = totals_ops r t pt; few = totals_few r t pt; there = omega (arith, totals_ops r t pt, (totals_sound r t pt).room) }

  module _ (x : Option Texts) (p : x ≡ inserts_of r) where
    pub texts_refused : x ≡ None → refused 3 ≡ measure_call r
    unfolding measure_call
    texts_refused y = same_refusal r (Err Utf8) (check_3 r t pt None (found_ill r x p y) refl) Utf8 _ refl

    module _ (u : Texts) (y : x ≡ Some u) (f : Result ℕ Refusal) (pf : answer_of f ≡ check_call r) (s : ℕ) (q : f ≡ Ok s) where
      pub bytes_few : u.bytes ≤ 196608
      bytes_few =
          omega
          (arith, found_bytes r x p u y, escaped_all_length (text_of r), extra_bytes_most (text_of r), text_length r (passed r f pf s q), (totals_sound r t pt).short)

      pub measured : (m k : ℕ) → m ≡ marks_of t.ops → k ≡ sum_of entry_frame r t.ops → success (t.ops ∷ (m + k + u.bytes) ∷ []) ≡ measure_call r
      unfolding measure_call
      measured m k pm pk =
          let z = passed r f pf s q in
          rw z (ap₂ (λ n l. success (n ∷ l ∷ [])) (totals_ops r t pt) (list_bytes r z t.ops (totals_ops r t pt) m k u.bytes pm pk (found_bytes r x p u y)))
