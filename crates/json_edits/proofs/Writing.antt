-- A record's list: what is measured and written is what the call gives.
use Rattle.std.specs.Prelude.{◌≡◌, ℕ, zero, suc, ◌<◌, ◌≤◌, List, [], ◌∷◌, length, Result, Ok, Err}
use native.Mathlib.Omega.{arith}
use mathlib.Core.Path.{refl, sym, ap, ◌∙◌}
use borrow.Author.Tests.{le-leb, lt-leb}
use Rattle.buffers.specs.InnerOver.{over}
use Rattle.buffers.proofs.Over.{over_front}
use Rattle.answers.specs.Answer.{success, refused, number, unless_refused}
use Rattle.answers.specs.Output.{writing}
use Rattle.answers.specs.InnerGiven.{Gives}
use Rattle.answers.specs.declared.Refusal.{Refusal}
use Rattle.answers.specs.declared.Refusal.TheVariants.{Room}
use Rattle.record.specs.Layout.{op_count_of}
use Rattle.record.specs.Record.{record_fault, ops}
use Rattle.json_lists.specs.Written.{written as list_of}
use Rattle.json_lists.specs.Calls.{to_json_call}
use Rattle.json_measure.specs.declared.inner.Measured.{Measured}
use Rattle.json_measure.specs.InnerSizes.{measured_of, measure_call}

module _ (r out : List ℕ) (m : Result Measured Refusal) (e : measured_of m ≡ measure_call r) where
  -- the record's own refusal
  pub record_refused : (x : Refusal) → m ≡ Err x → Gives (to_json_call r out) (Err x) out
  unfolding to_json_call writing measure_call
  record_refused x z = go (record_fault r) refl (sym (ap measured_of z) ∙ e)
    where
      go : (k : ℕ) → record_fault r ≡ k → refused (number x) ≡ unless_refused k refused (success (op_count_of r ∷ length (list_of (ops r)) ∷ [])) → Gives (writing k (list_of (ops r)) out) (Err x) out
      go zero p q = absurd (let y : ◌≡◌ {A = ℕ} 0 1 = cc q in omega arith)
      go (suc k) p q = record { answer = q; out = refl }

  module _ {x : Measured} (z : m ≡ Ok x) where
    pub list_passes : record_fault r ≡ 0
    unfolding measure_call
    list_passes = go (record_fault r) (sym (ap measured_of z) ∙ e)
      where
        go : (k : ℕ) → success (x.ops ∷ x.bytes ∷ []) ≡ unless_refused k refused (success (op_count_of r ∷ length (list_of (ops r)) ∷ [])) → k ≡ 0
        go zero q = refl
        go (suc k) q = absurd (let y : ◌≡◌ {A = ℕ} 0 1 = cc q in omega arith)

    sizes : success (x.ops ∷ x.bytes ∷ []) ≡ success (op_count_of r ∷ length (list_of (ops r)) ∷ [])
    unfolding measure_call
    sizes = sym (ap measured_of z) ∙ e ∙ ap (λ k. unless_refused k refused (success (op_count_of r ∷ length (list_of (ops r)) ∷ []))) list_passes

    pub list_ops : x.ops ≡ op_count_of r
    list_ops = let s = sizes in cc s

    list_size : x.bytes ≡ length (list_of (ops r))
    list_size = let s = sizes in cc s

    pub list_fits : x.bytes ≤ length out → length (list_of (ops r)) ≤ length out
    list_fits h = omega (arith, list_size)

    pub list_room : length out < x.bytes → Gives (to_json_call r out) (Err Room) out
    unfolding to_json_call writing
    list_room h = rw (list_passes, lt-leb (length (list_of (ops r))) (length out) (omega (arith, list_size))) (record { answer = refl; out = refl })

    pub list_given : x.bytes ≤ length out → (o : List ℕ) → o ≡ over 0 (list_of (ops r)) out → Gives (to_json_call r out) (Ok x.bytes) o
    unfolding to_json_call writing
    list_given h o p =
        let s = list_size in
        rw (list_passes, le-leb (length (list_of (ops r))) (length out) (omega arith))
        (record { answer = ap (λ k. success (k ∷ [])) s; out = p ∙ over_front (list_of (ops r)) out (omega arith) })
