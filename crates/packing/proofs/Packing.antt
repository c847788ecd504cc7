-- From the code's answers to their numbers.
use Rattle.std.specs.Prelude.{Result, Option, Ok, Err, Some}
use Prim.Native.Nat.{ℕ, ◌+◌, ◌^◌, ◌*◌, ◌≤◌, zero, suc, ◌<◌}
use mathlib.Core.Path.{◌≡◌, refl, sym, ap, ◌∙◌}
use mathlib.Core.Bool.{Bool, true, false, cond}
use lib.Dec.{T, leb, leb→le}
use native.Mathlib.Omega.{arith}
use mathlib.Core.List.{List}
use lib.ListN.{length}
use Rattle.buffers.proofs.Tests.{both}
use Rattle.answers.specs.declared.Refusal.{Refusal}
use Rattle.answers.specs.Answer.{number, answer_of, noop_of, pair_of}
use Rattle.record.specs.Layout.{op_count_of, max_size}
use Rattle.record.specs.Record.{record_fault}
use Rattle.record.specs.Calls.{text_call, start_of_insert}
use Rattle.operation.proofs.Answers.{text_passed, text_index, text_small}
use Rattle.record.specs.Kinds.{number_of}
use Rattle.record.specs.declared.inner.Kind.{Kind}
use Rattle.walker.specs.declared.Op.{Op}
use Rattle.walker.specs.Walk.{found_of}
use Rattle.packing.specs.Numbers.{packed, step_number, most, small, part}

-- ---- refusals

module _ (y : Refusal) (r : ℕ) (p : r ≡ 2 ^ 63 + number y) where
  pub noop_refused : (x : Result Bool Refusal) → x ≡ Err y → r ≡ packed (noop_of x)
  noop_refused x e = rw e p

  pub answer_refused : (x : Result ℕ Refusal) → x ≡ Err y → r ≡ packed (answer_of x)
  answer_refused x e = rw e p

  pub pair_refused : (x : Result (ℕ × ℕ) Refusal) → x ≡ Err y → r ≡ packed (pair_of x)
  pair_refused x e = rw e p

-- ---- one result

pub noop_is : (x : Result Bool Refusal) (b : Bool) (r : ℕ) → r ≡ cond b 1 0 → x ≡ Ok b → r ≡ packed (noop_of x)
noop_is x true r p e = rw e p
noop_is x false r p e = rw e p

pub step_is : (x : Option Op) (kind : Kind) (number count : ℕ) → x ≡ Some (record { kind = kind; count = count }) → number ≡ number_of kind → number + 256 * count ≡ step_number (found_of x)
step_is x kind number count e p = rw (e, p) refl

-- ---- two results

module _ (x : Result (ℕ × ℕ) Refusal) (m n : ℕ) (e : x ≡ Ok (m, n)) where
  pub pair_is : m + 4294967296 * n ≡ packed (pair_of x)
  pair_is = rw e refl

  pub pair_first : T (small (pair_of x)) → m ≤ most
  pair_first h = leb→le m most ((both (leb m most) (leb n most)).0 (rw e at h)).0

  pub pair_second : T (small (pair_of x)) → n ≤ most
  pair_second h = leb→le n most ((both (leb m most) (leb n most)).0 (rw e at h)).1

-- ---- the text of a record

module _ (r t : List ℕ) (k : ℕ) (e : t ≡ text_call r k) where
  pub part_none : length t ≡ 0 → 0 ≡ part (start_of_insert r k) (length (text_call r k))
  part_none z = rw (sym (ap length e) ∙ z)

  module _ (z : length t ≡ 0 → ⊥) where
    some : 0 < length (text_call r k)
    some = omega (arith, ap length e)

    pub part_passed : record_fault r ≡ 0
    part_passed = text_passed r k some

    pub part_index : k < op_count_of r
    part_index = text_index r k some

    pub part_small : length t ≤ max_size
    part_small = rw (ap length e) (text_small r k some)

    pub part_is : (from : ℕ) → from ≡ start_of_insert r k → from + 4294967296 * length t ≡ part (start_of_insert r k) (length (text_call r k))
    part_is from f = go (length (text_call r k)) (ap length e) some
      where
        go : (n : ℕ) → length t ≡ n → 0 < n → from + 4294967296 * length t ≡ part (start_of_insert r k) n
        go zero h l = absurd (omega arith)
        go (suc n) h l = omega arith
