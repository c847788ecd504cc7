-- A sequence one character at a time: each pace keeps or skips a character of the text, or puts a new one.
-- Paces in which no put directly follows a skip are told apart by what they do to texts.
use Prim.Native.Nat.{ℕ, zero, suc, ◌+◌}
use native.Mathlib.Nat.{suc-add, zero-add, suc_inj, suc-ne-zero}
use mathlib.Core.Path.{◌≡◌, refl, sym, ap, ◌∙◌, subst}
use mathlib.Core.Bool.{Bool, true, false, ◌&&◌}
use mathlib.Core.List.{List, [], ◌∷◌, ◌++◌, nil≢cons, cons≢nil, head-eq_of_cons-eq, tail-eq_of_cons-eq}
use lib.Dec.{T}
use lib.ListN.{take, drop, replicate, length, length-replicate}
use lib.Seq.{take-nil, drop-nil}
use mathlib.Core.Logic.{◌≢◌}
use Rattle.buffers.proofs.Tests.{both}
use Rattle.edits.specs.Op.{Op, retain, insert, delete, base}
use Rattle.edits.specs.Apply.{apply}

pub data Pace (C : Type 0) : Type 0 where
  keep skip : Pace C
  put : C → Pace C

module _ {C : Type 0} where
  -- n times the pace p, and the characters of x put, in front of the paces m
  unfoldable pub many : ℕ → Pace C → List (Pace C) → List (Pace C)
  many zero p m = m
  many (suc n) p m = p ∷ many n p m

  unfoldable pub puts : List C → List (Pace C) → List (Pace C)
  puts [] m = m
  puts (c ∷ x) m = put c ∷ puts x m

  -- how many characters the paces pass, and what they make of a text (where characters run out, none are passed)
  unfoldable pub span : List (Pace C) → ℕ
  span [] = 0
  span (keep ∷ m) = suc (span m)
  span (skip ∷ m) = suc (span m)
  span (put c ∷ m) = span m

  unfoldable pub walk : List (Pace C) → List C → List C
  walk [] t = []
  walk (put c ∷ m) t = c ∷ walk m t
  walk (keep ∷ m) [] = walk m []
  walk (keep ∷ m) (z ∷ t) = z ∷ walk m t
  walk (skip ∷ m) [] = walk m []
  walk (skip ∷ m) (z ∷ t) = walk m t

  pub walk_keeps : (n : ℕ) (m : List (Pace C)) (t : List C) → walk (many n keep m) t ≡ take n t ++ walk m (drop n t)
  unfolding many walk
  walk_keeps zero m t = refl
  walk_keeps (suc n) m [] = rw (take-nil n, drop-nil n) at (walk_keeps n m [])
  walk_keeps (suc n) m (z ∷ t) = ap (λ (r : List C). z ∷ r) (walk_keeps n m t)

  pub walk_skips : (n : ℕ) (m : List (Pace C)) (t : List C) → walk (many n skip m) t ≡ walk m (drop n t)
  unfolding many walk
  walk_skips zero m t = refl
  walk_skips (suc n) m [] = rw (drop-nil n) at (walk_skips n m [])
  walk_skips (suc n) m (z ∷ t) = walk_skips n m t

  pub walk_puts : (x : List C) (m : List (Pace C)) (t : List C) → walk (puts x m) t ≡ x ++ walk m t
  unfolding puts walk
  walk_puts [] m t = refl
  walk_puts (c ∷ x) m t = ap (λ (r : List C). c ∷ r) (walk_puts x m t)

  pub span_many : (p : Pace C) → ((m : List (Pace C)) → span (p ∷ m) ≡ suc (span m)) → (n : ℕ) (m : List (Pace C)) → span (many n p m) ≡ n + span m
  unfolding many
  span_many p one zero m = sym (zero-add (span m))
  span_many p one (suc n) m = one (many n p m) ∙ ap suc (span_many p one n m) ∙ sym (suc-add n (span m))

  pub span_puts : (x : List C) (m : List (Pace C)) → span (puts x m) ≡ span m
  unfolding puts span
  span_puts [] m = refl
  span_puts (c ∷ x) m = span_puts x m

  -- does no put directly follow a skip?
  abbrev pub quiet : List (Pace C) → Bool
  quiet [] = true
  quiet (keep ∷ m) = true
  quiet (skip ∷ m) = true
  quiet (put c ∷ m) = false

  abbrev pub calm : List (Pace C) → Bool
  calm [] = true
  calm (keep ∷ m) = calm m
  calm (skip ∷ m) = quiet m && calm m
  calm (put c ∷ m) = calm m

  pub calm_keeps : (n : ℕ) (m : List (Pace C)) → T (calm m) → T (calm (many n keep m))
  unfolding many
  calm_keeps zero m h = h
  calm_keeps (suc n) m h = calm_keeps n m h

  pub calm_puts : (x : List C) (m : List (Pace C)) → T (calm m) → T (calm (puts x m))
  unfolding puts
  calm_puts [] m h = h
  calm_puts (c ∷ x) m h = calm_puts x m h

  pub calm_skips : (n : ℕ) (m : List (Pace C)) → T (quiet m && calm m) → T (quiet (many n skip m) && calm (many n skip m))
  unfolding many
  calm_skips zero m h = h
  calm_skips (suc n) m h = calm_skips n m h

  -- on a text of one character only, paces that begin with no put give nothing, or that character first
  abbrev begins : C → List C → Type 0
  begins z [] = Unit {0}
  begins z (w ∷ t) = w ≡ z

  quiet_begins : (m : List (Pace C)) (z : C) → T (quiet m && calm m) → begins z (walk m (replicate (span m) z))
  unfolding walk span
  quiet_begins [] z h = tt
  quiet_begins (keep ∷ m) z h = refl
  quiet_begins (skip ∷ m) z h = quiet_begins m z h
  quiet_begins (put c ∷ m) z h = absurd h

module _ {C : Type 0} (x y : C) (apart : x ≢ y) where
  no_put : (c : C) (m n : List (Pace C)) → T (quiet n && calm n) → ((t : List C) → length t ≡ span n → walk (put c ∷ m) t ≡ walk n t) → ⊥
  unfolding walk
  no_put c m n q h = apart (sym (is x) ∙ is y)
    where
      is : (z : C) → c ≡ z
      is z = subst (begins z) (sym (h (replicate (span n) z) (length-replicate (span n) z))) (quiet_begins n z q)

  no_skip : (m n : List (Pace C)) → ((t : List C) → length t ≡ suc (span m) → walk (keep ∷ m) t ≡ walk (skip ∷ n) t) → ⊥
  unfolding walk
  no_skip m n h =
      let r = replicate (span m) x in
      let l = ap suc (length-replicate (span m) x) in
      apart (head-eq_of_cons-eq (h (x ∷ r) l ∙ sym (h (y ∷ r) l)))

  pub walk_unique : (m n : List (Pace C)) → T (calm m) → T (calm n) → span m ≡ span n
      → ((t : List C) → length t ≡ span m → walk m t ≡ walk n t) → m ≡ n
  unfolding span walk
  walk_unique [] [] hm hn e h = refl
  walk_unique [] (keep ∷ n) hm hn e h = absurd (suc-ne-zero (span n) (sym e))
  walk_unique [] (skip ∷ n) hm hn e h = absurd (suc-ne-zero (span n) (sym e))
  walk_unique [] (put d ∷ n) hm hn e h = absurd (nil≢cons (h [] refl))
  walk_unique (keep ∷ m) [] hm hn e h = absurd (suc-ne-zero (span m) e)
  walk_unique (skip ∷ m) [] hm hn e h = absurd (suc-ne-zero (span m) e)
  walk_unique (put c ∷ m) [] hm hn e h = absurd (cons≢nil (h [] (sym e)))
  walk_unique (keep ∷ m) (keep ∷ n) hm hn e h =
      ap (λ (r : List (Pace C)). keep ∷ r) (walk_unique m n hm hn (suc_inj e) (λ t l. tail-eq_of_cons-eq (h (x ∷ t) (ap suc l))))
  walk_unique (skip ∷ m) (skip ∷ n) hm hn e h =
      ap (λ (r : List (Pace C)). skip ∷ r)
      (walk_unique m n ((both (quiet m) (calm m)).0 hm).1 ((both (quiet n) (calm n)).0 hn).1 (suc_inj e) (λ t l. h (x ∷ t) (ap suc l)))
  walk_unique (put c ∷ m) (put d ∷ n) hm hn e h =
      λ i. put (head-eq_of_cons-eq (h (replicate (span m) x) (length-replicate (span m) x)) i) ∷ walk_unique m n hm hn e (λ t l. tail-eq_of_cons-eq (h t l)) i
  walk_unique (keep ∷ m) (skip ∷ n) hm hn e h = absurd (no_skip m n h)
  walk_unique (skip ∷ m) (keep ∷ n) hm hn e h = absurd (no_skip n m (λ t l. sym (h t (l ∙ sym e))))
  walk_unique (keep ∷ m) (put d ∷ n) hm hn e h = absurd (no_put d n (keep ∷ m) hm (λ t l. sym (h t l)))
  walk_unique (skip ∷ m) (put d ∷ n) hm hn e h = absurd (no_put d n (skip ∷ m) hm (λ t l. sym (h t l)))
  walk_unique (put c ∷ m) (keep ∷ n) hm hn e h = absurd (no_put c m (keep ∷ n) hn (λ t l. h t (l ∙ sym e)))
  walk_unique (put c ∷ m) (skip ∷ n) hm hn e h = absurd (no_put c m (skip ∷ n) hn (λ t l. h t (l ∙ sym e)))

-- ---- the paces of a sequence
module _ {C : Type 0} where
  unfoldable pub unroll : Op C → List (Pace C) → List (Pace C)
  unfolding many puts
  unroll (retain n) m = many n keep m
  unroll (insert x) m = puts x m
  unroll (delete n) m = many n skip m

  unfoldable pub paces : List (Op C) → List (Pace C)
  unfolding unroll
  paces [] = []
  paces (o ∷ s) = unroll o (paces s)

  pub apply_paces : (s : List (Op C)) (t : List C) → apply s t ≡ walk (paces s) t
  unfolding paces walk
  apply_paces [] t = refl
  apply_paces (retain n ∷ s) t = cc (apply_paces s (drop n t), walk_keeps n (paces s) t)
  apply_paces (insert x ∷ s) t = cc (apply_paces s t, walk_puts x (paces s) t)
  apply_paces (delete n ∷ s) t = cc (apply_paces s (drop n t), walk_skips n (paces s) t)

  pub base_paces : (s : List (Op C)) → base s ≡ span (paces s)
  unfolding paces span
  base_paces [] = refl
  base_paces (retain n ∷ s) = cc (base_paces s, span_many keep (λ m. refl) n (paces s))
  base_paces (insert x ∷ s) = cc (base_paces s, span_puts x (paces s), zero-add (base s))
  base_paces (delete n ∷ s) = cc (base_paces s, span_many skip (λ m. refl) n (paces s))
