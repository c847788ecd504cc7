-- Sizes only grow from builder to builder: 9 for some items is 9 for the whole list.
use Prim.Native.Nat.{ℕ, ◌+◌, ◌*◌, ◌≤◌, ◌<◌, min}
use native.Mathlib.Omega.{arith}
use mathlib.Core.Path.{◌≡◌, refl, sym, ap, ap₂, ◌∙◌}
use mathlib.Core.Logic.{◌⊎◌, inl, inr, ⊎_elim}
use mathlib.Core.Bool.{Bool, true, false, true≢false}
use mathlib.Core.List.{List, [], ◌∷◌, ◌++◌, map, map-append}
use lib.Dec.{T}
use Rattle.buffers.proofs.Tests.{holds, known}
use Rattle.characters.proofs.Leads.{le_or_lt}
use Rattle.answers.specs.Answer.{refused, needs}
use Rattle.edits.specs.Op.{takes, total, base}
use Rattle.edits.specs.Sequence.{Seq}
use Rattle.record.specs.Record.{encode, fits}
use Rattle.record.proofs.Sequences.{fits_limits}
use Rattle.edits.specs.Build.{add_all, build}
use Rattle.answers.specs.Output.{writing}
use Rattle.operational_transform.specs.Calls.{deliver}
use Rattle.edits.proofs.Building.{add_all_append}
use Rattle.emitter.proofs.Growing.{fits_early}
use Rattle.edits.proofs.Claims.{build_base}
use Rattle.json_lists.specs.Form.{Sign, plus, minus, Item, number, string}
use Rattle.json_lists.specs.InnerRuns.{capped}
use Rattle.json_lists.specs.Calls.{op_of, ops_of}

-- where the whole list passes no limit, its first items pass none
pub fits_first : (l m : List Item) → T (fits (ops_of (l ++ m))) → T (fits (ops_of l))
unfolding ops_of build
fits_first l m h =
    fits_early (add_all [] (map op_of l)) (map op_of m) (rw (map-append op_of l m, add_all_append [] (map op_of l) (map op_of m)) at h)

-- where its first items pass a limit, the whole list does
pub passes_early : (l m : List Item) → fits (ops_of l) ≡ false → fits (ops_of (l ++ m)) ≡ false
passes_early l m e = go (fits (ops_of (l ++ m))) refl
  where
    go : (t : Bool) → fits (ops_of (l ++ m)) ≡ t → t ≡ false
    go true h = absurd (true≢false (sym (holds (fits (ops_of l)) (fits_first l m (known h))) ∙ e))
    go false h = refl

-- ---- a number over the limit

takes_append : (s u : Seq) → total takes (s ++ u) ≡ total takes s + total takes u
takes_append [] u = omega arith
takes_append (o ∷ s) u = omega (arith, takes_append s u)

-- 9 for a list that has such a number in it, whatever stands before and behind
pub passes_by_number : (l m : List Item) (s : Sign) (n : ℕ) → 32768 < n → fits (ops_of (l ++ (number s n ∷ m))) ≡ false
unfolding ops_of op_of
passes_by_number l m s n h = go (fits (ops_of (l ++ (number s n ∷ m)))) refl
  where
    at_least : (s : Sign) → n ≤ takes (op_of (number s n))
    at_least plus = omega arith
    at_least minus = omega arith

    go : (t : Bool) → fits (ops_of (l ++ (number s n ∷ m))) ≡ t → t ≡ false
    go true e =
        let k = ((fits_limits (ops_of (l ++ (number s n ∷ m)))).0 (known e)).bases in
        let b : base (ops_of (l ++ (number s n ∷ m))) ≡ total takes (map op_of l) + total takes (map op_of (number s n ∷ m)) =
        build_base (map op_of (l ++ (number s n ∷ m))) ∙ ap (total takes) (map-append op_of l (number s n ∷ m)) ∙ takes_append (map op_of l) (map op_of (number s n ∷ m)) in
        absurd (omega (arith, at_least s))
    go false e = refl

-- ---- numbers may be cut off at 32,769 while they are read

-- a number over the limit stands in a list
record Over (l : List Item) : Type 0 where
  before : List Item
  sign : Sign
  value : ℕ
  behind : List Item
  large : 32768 < value
  is : l ≡ before ++ (number sign value ∷ behind)

later : {l : List Item} (x : Item) → Over l → Over (x ∷ l)
later x o = record { before = x ∷ o.before; sign = o.sign; value = o.value; behind = o.behind; large = o.large; is = ap (λ r. x ∷ r) o.is }

over_or_same : (l : List Item) → (map capped l ≡ l) ⊎ Over l
over_or_same [] = inl refl
over_or_same (string t ∷ l) = ⊎_elim (λ e. inl (ap (λ r. string t ∷ r) e)) (λ o. inr (later (string t) o)) (over_or_same l)
over_or_same (number s n ∷ l) =
    ⊎_elim
    (λ h. ⊎_elim (λ e. let z : min n 32769 ≡ n = omega arith in inl (ap₂ (λ k r. number s k ∷ r) z e)) (λ o. inr (later (number s n) o)) (over_or_same l))
    (λ h. inr (record { before = []; sign = s; value = n; behind = l; large = h; is = refl })) (le_or_lt n 32768)

-- ---- what is delivered

-- a sequence that keeps the limits is written as a record
pub delivers : (s : Seq) (out : List ℕ) → T (fits s) → deliver 0 s out ≡ writing 0 (encode s) out
unfolding deliver
delivers s out f = ap (λ t. writing (needs t 9 0) (encode s) out) (holds (fits s) f)

-- one that passes a limit is refused by 9
pub deliver_over : (s : Seq) (out : List ℕ) → fits s ≡ false → deliver 0 s out ≡ record { answer = refused 9; out = out }
unfolding deliver
deliver_over s out e = ap (λ t. writing (needs t 9 0) (encode s) out) e

-- where a number is cut off the record is refused, and was to be
pub capped_or_over : (l : List Item) → (map capped l ≡ l) ⊎ ((fits (ops_of (map capped l)) ≡ false) × (fits (ops_of l) ≡ false))
capped_or_over l =
    ⊎_elim inl
    (λ o.
    let e : map capped l ≡ map capped o.before ++ (number o.sign (min o.value 32769) ∷ map capped o.behind) = ap (map capped) o.is ∙ map-append capped o.before _ in
    let k = o.large in
    inr (ap (λ r. fits (ops_of r)) e ∙ passes_by_number (map capped o.before) (map capped o.behind) o.sign (min o.value 32769) (omega arith), ap (λ r. fits (ops_of r)) o.is ∙ passes_by_number o.before o.behind o.sign o.value k))
    (over_or_same l)

-- one digit more of a number that is cut off
pub capped_digit : (n d : ℕ) → min (n * 10 + d) 32769 ≡ min (min n 32769 * 10 + d) 32769
capped_digit n d = omega arith
