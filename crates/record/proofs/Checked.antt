-- What the answer of the check tells its caller.
use Rattle.std.specs.Prelude.{Result, Ok, Err}
use Prim.Native.Nat.{ℕ, suc, zero}
use mathlib.Core.Path.{◌≡◌, refl, sym, ap, ◌∙◌}
use mathlib.Core.List.{List, [], ◌∷◌}
use native.Mathlib.Omega.{arith}
use Rattle.answers.specs.declared.Refusal.{Refusal}
use Rattle.answers.specs.Answer.{number, Answer, success, refused, answer_of, unless_refused}
use Rattle.record.specs.Record.{record_fault}
use Rattle.record.specs.Layout.{size_of}
use Rattle.record.specs.Calls.{check_call}

-- the record is refused by this number
pub record Stopped (r : List ℕ) (x : Refusal) : Type 0 where
  pub less : ℕ
  pub fault : record_fault r ≡ suc less
  pub number_is : number x ≡ suc less

module _ (r : List ℕ) (f : Result ℕ Refusal) (p : answer_of f ≡ check_call r) where
  pub stopped : (x : Refusal) → f ≡ Err x → Stopped r x
  unfolding check_call
  stopped x q = go (record_fault r) refl (ap answer_of (sym q) ∙ p)
    where
      go : (k : ℕ) → record_fault r ≡ k → refused (number x) ≡ unless_refused k refused (success (size_of r ∷ [])) → Stopped r x
      go zero h e = absurd (let z : ◌≡◌ {A = ℕ} 0 1 = cc e in omega arith)
      go (suc k) h e = record { less = k; fault = h; number_is = (cc e) }

  pub same_refusal : (x : Refusal) (g : Answer) → f ≡ Err x → refused (number x) ≡ unless_refused (record_fault r) refused g
  unfolding check_call
  same_refusal x g q = go (record_fault r) (ap answer_of (sym q) ∙ p)
    where
      go : (k : ℕ) → refused (number x) ≡ unless_refused k refused (success (size_of r ∷ [])) → refused (number x) ≡ unless_refused k refused g
      go zero e = absurd (let z : ◌≡◌ {A = ℕ} 0 1 = cc e in omega arith)
      go (suc k) e = e

  module _ (s : ℕ) (q : f ≡ Ok s) where
    pub passed : record_fault r ≡ 0
    unfolding check_call
    passed = go (record_fault r) (ap answer_of (sym q) ∙ p)
      where
        go : (k : ℕ) → success (s ∷ []) ≡ unless_refused k refused (success (size_of r ∷ [])) → k ≡ 0
        go zero e = refl
        go (suc k) e = absurd (let z : ◌≡◌ {A = ℕ} 0 1 = cc e in omega arith)
