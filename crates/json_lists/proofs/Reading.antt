-- What bytes are read as, part by part.
use Prim.Native.Nat.{ℕ}
use mathlib.Core.Path.{◌≡◌, refl, ap, ap₂, ◌∙◌}
use mathlib.Core.Bool.{Bool, true, false, not, ◌&&◌, ◌||◌}
use mathlib.Core.List.{List, [], ◌∷◌, ◌++◌, append_assoc, append-nil}
use lib.Dec.{T}
use Rattle.buffers.proofs.Tests.{both}
use Rattle.json_lists.specs.Form.{is_white_space, Item, Place, at_start, after_bracket, after_comma, after_minus, in_number, in_string, after_escape, in_unicode, after_high, after_high_escape, after_value, at_end, outside, next, ends, reached, items}

-- in a string
abbrev pub inside : Place → Bool
inside at_start = false
inside after_bracket = false
inside after_comma = false
inside after_minus = false
inside (in_number s n) = false
inside (in_string t) = true
inside (after_escape t) = true
inside (in_unicode high due v t) = true
inside (after_high high t) = true
inside (after_high_escape high t) = true
inside after_value = false
inside at_end = false
inside outside = false

-- no white space stands outside of strings
unfoldable pub tight : Place → List ℕ → Bool
unfolding next is_white_space
tight p [] = true
tight p (b ∷ bs) = (inside p || not (is_white_space b)) && tight (next p b) bs

-- the bytes lead from one place to another, these items end in them, and they have no white space outside of strings
pub record Reads (p : Place) (bs : List ℕ) (q : Place) (l : List Item) : Type 0 where
  pub to : reached p bs ≡ q
  pub has : items p bs ≡ l
  pub no_space : T (tight p bs)

-- one byte
pub reads_byte : {p q : Place} {b : ℕ} {l : List Item} → next p b ≡ q → ends p b ≡ l → T (inside p || not (is_white_space b)) → Reads p (b ∷ []) q l
unfolding reached items tight
reads_byte {p} {b = b} n m s = record { to = n; has = append-nil (ends p b) ∙ m; no_space = (both (inside p || not (is_white_space b)) true).1 (s, tt) }

-- ---- one part behind the other

pub reached_append : (p : Place) (xs ys : List ℕ) → reached p (xs ++ ys) ≡ reached (reached p xs) ys
unfolding reached
reached_append p [] ys = refl
reached_append p (b ∷ xs) ys = reached_append (next p b) xs ys

pub items_append : (p : Place) (xs ys : List ℕ) → items p (xs ++ ys) ≡ items p xs ++ items (reached p xs) ys
unfolding reached items
items_append p [] ys = refl
items_append p (b ∷ xs) ys = ap (λ l. ends p b ++ l) (items_append (next p b) xs ys) ∙ rw append_assoc

tight_append : (p : Place) (xs ys : List ℕ) → T (tight p xs) → T (tight (reached p xs) ys) → T (tight p (xs ++ ys))
unfolding reached tight
tight_append p [] ys h k = k
tight_append p (b ∷ xs) ys h k =
    let (f, g) = (both (inside p || not (is_white_space b)) (tight (next p b) xs)).0 h in
    (both (inside p || not (is_white_space b)) (tight (next p b) (xs ++ ys))).1 (f, tight_append (next p b) xs ys g k)

pub reads_then : {p q r : Place} {xs ys : List ℕ} {l m : List Item} → Reads p xs q l → Reads q ys r m → Reads p (xs ++ ys) r (l ++ m)
reads_then {p} {q} {r} {xs} {ys} {l} {m} f g =
    record {
      to = reached_append p xs ys ∙ ap (λ x. reached x ys) f.to ∙ g.to;
      has = items_append p xs ys ∙ ap₂ ◌++◌ f.has (ap (λ x. items x ys) f.to ∙ g.has);
      no_space = tight_append p xs ys f.no_space (rw f.to g.no_space);
    }

-- ---- outside of the form nothing leads back

pub outside_stays : (bs : List ℕ) → reached outside bs ≡ outside
unfolding reached
outside_stays [] = refl
outside_stays (b ∷ bs) = outside_stays bs

pub outside_none : (bs : List ℕ) → items outside bs ≡ []
unfolding items
outside_none [] = refl
outside_none (b ∷ bs) = outside_none bs
