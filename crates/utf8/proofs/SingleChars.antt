-- What `continuations` finds.
use Rattle.std.specs.Prelude.{◌≡◌, ℕ, zero, suc, ◌+◌, ◌<◌, ◌≤◌, Bool, true, false, not, ◌&&◌, ◌||◌, ltb, List, ◌∷◌, length, get_or, take, drop, Some, None}
use native.Mathlib.Omega.{arith}
use mathlib.Core.Path.{sym, ap, ◌∙◌, refl}
use mathlib.Core.Bool.{false≢true}
use lib.Dec.{leb→le}
use borrow.Author.Tests.{not-true, not-false, le-ltb}
use Rattle.buffers.proofs.Tests.{known}
use Rattle.characters.specs.Form.{is_well_formed, well_formed_from, whole, well_char, lead_from, Lead}
use Rattle.characters.proofs.Bytes.{each_at}
use Rattle.characters.proofs.Chars.{rest_bad}
use Rattle.characters.proofs.Leads.{short_lead}
use Rattle.characters.proofs.Steps.{first_due, room}
use Rattle.characters.proofs.Walk.{next, rest_lead}
use Rattle.utf8.specs.InnerChars.{CharAt}

-- only ASCII is followed by no byte
follows : Lead → Bool
follows None = true
follows (Some (zero, lo, hi)) = false
follows (Some (suc n, lo, hi)) = true

followed : (b : ℕ) → 0x80 ≤ b → b < 256 → follows (lead_from b) ≡ true
unfolding follows lead_from
followed b l h =
    let z : (ltb b 0x80 || follows (lead_from b)) ≡ true = each_at (λ b. ltb b 0x80 || follows (lead_from b)) 0 256 b refl (omega arith) h in
    rw (le-ltb b 0x80 l) at z

module _ (t : List ℕ) (at : ℕ) (x : Lead) (h : at < length t) (e : x ≡ lead_from (get_or t at 0)) where
  nothing : is_well_formed (drop at t) ≡ false → CharAt t at 0
  nothing w = record { few = omega arith; there = omega arith; well = λ l. absurd (omega arith); none = λ _ _. w }

  pub char_bad : x ≡ None → CharAt t at 0
  char_bad f = nothing (rest_lead t at h 0 0x80 0xBF refl ∙ ap (well_formed_from (drop (at + 1) t)) (sym e ∙ f) ∙ rest_bad (drop (at + 1) t))

  module _ {more lo hi : ℕ} (f : x ≡ Some (more, lo, hi)) where
    pub char_few : more ≤ 3
    char_few = leb→le more 3 (rw (sym e ∙ f) at (short_lead (get_or t at 0)))

    module _ (d : Bool) (g : d ≡ whole (take more (drop (at + 1) t)) (Some (more, lo, hi))) where
      pub char_cut : not d ≡ true → CharAt t at 0
      char_cut k = nothing (first_due t at h (sym e ∙ f) ∙ ap (λ z. z && is_well_formed (drop (at + 1 + more) t)) (sym g ∙ not-true d k))

      pub char_there : not d ≡ false → get_or t at 0 < 256 → CharAt t at more
      unfolding follows
      char_there k u =
          let l = sym e ∙ f in
          let w = sym g ∙ not-false d k in
          let c : take (suc more) (drop at t) ≡ get_or t at 0 ∷ take more (drop (at + 1) t) = ap (take (suc more)) (next t at h) in
          record {
            few = char_few;
            there = omega (arith, room t at h l w);
            well = λ _. known (ap well_char c ∙ ap (whole (take more (drop (at + 1) t))) l ∙ w);
            none = λ z a. absurd (false≢true (sym (ap follows (l ∙ ap (λ n. Some (n, lo, hi)) z)) ∙ followed (get_or t at 0) a u));
          }
