-- Two built sequences that do the same to every text are the same.
use Prim.Native.Nat.{ℕ, zero, suc, ◌+◌, ◌<◌}
use native.Mathlib.Omega.{arith}
use mathlib.Core.Path.{◌≡◌, refl, sym, ap, ◌∙◌}
use mathlib.Core.List.{List, [], ◌∷◌, ◌++◌, map, reverse, reverse_aux, reverse-reverse, append-nil, append_assoc}
use lib.Dec.{T}
use mathlib.Core.Logic.{◌≢◌}
use lib.ListN.{length}
use Rattle.buffers.proofs.Tests.{both}
use Rattle.edits.specs.Op.{Op, retain, insert, delete, size, base}
use Rattle.edits.specs.Build.{put as putOp, add, extend, add_all, build}
use Rattle.edits.specs.Built.{Built, kind, next}
use Rattle.edits.specs.Apply.{apply}
use Rattle.edits.proofs.Meaning.{if_zero_elim}
use Rattle.edits.proofs.Building.{add_all_append, Prev}
use Rattle.edits.proofs.Links.{Links, built_links}
use Rattle.edits.proofs.Pace.{Pace, keep, skip, put, many, puts, quiet, calm, calm_keeps, calm_puts, calm_skips, unroll, paces, walk_unique, apply_paces, base_paces}

-- ---- a built sequence is built again from its operations, and from its paces
module _ {C : Type 0} where
  put_new : (o : Op C) (r : List (Op C)) → Prev r (kind o) → putOp o r ≡ o ∷ r
  unfolding putOp
  put_new o [] h = refl
  put_new (retain n) (retain m ∷ r) h = absurd h
  put_new (retain n) (insert y ∷ r) h = refl
  put_new (retain n) (delete m ∷ r) h = refl
  put_new (insert x) (retain m ∷ r) h = refl
  put_new (insert x) (insert y ∷ r) h = absurd h
  put_new (insert x) (delete m ∷ r) h = absurd h
  put_new (delete n) (retain m ∷ r) h = refl
  put_new (delete n) (insert y ∷ r) h = refl
  put_new (delete n) (delete m ∷ r) h = absurd h

  pub add_new : (o : Op C) (r : List (Op C)) → 0 < size o → Prev r (kind o) → add r o ≡ o ∷ r
  unfolding add
  add_new o r f h = if_zero_elim (λ q. q ≡ o ∷ r) (size o) (λ e. absurd (omega arith)) (λ _. put_new o r h)

  -- the operation of one pace
  unfoldable one : Pace C → Op C
  one keep = retain 1
  one skip = delete 1
  one (put c) = insert (c ∷ [])

  abbrev add_paces : List (Op C) → List (Pace C) → List (Op C)
  add_paces r m = add_all r (map one m)

  add_paces_many : (p : Pace C) (f : ℕ → Op C) → ((k : ℕ) (r : List (Op C)) → add (f k ∷ r) (one p) ≡ f (k + 1) ∷ r)
      → (n k l : ℕ) (r : List (Op C)) (m : List (Pace C)) → k + n ≡ l → add_paces (f k ∷ r) (many n p m) ≡ add_paces (f l ∷ r) m
  unfolding many add_all
  add_paces_many p f more zero k l r m e = ap (λ (j : ℕ). add_paces (f j ∷ r) m) (omega arith)
  add_paces_many p f more (suc n) k l r m e =
      ap (λ (q : List (Op C)). add_paces q (many n p m)) (more k r) ∙ add_paces_many p f more n (k + 1) l r m (omega arith)

  add_paces_puts : (x y : List C) (r : List (Op C)) (m : List (Pace C)) → add_paces (insert y ∷ r) (puts x m) ≡ add_paces (insert (y ++ x) ∷ r) m
  unfolding puts add_all one
  add_paces_puts [] y r m = rw append-nil
  add_paces_puts (c ∷ x) y r m = rw append_assoc at (add_paces_puts x (y ++ (c ∷ [])) r m)

  add_paces_unroll : (o : Op C) (r : List (Op C)) (m : List (Pace C)) → 0 < size o → Prev r (kind o)
      → add_paces r (unroll o m) ≡ add_paces (o ∷ r) m
  unfolding unroll add_all one
  add_paces_unroll (retain zero) r m f h = absurd (omega arith)
  add_paces_unroll (retain (suc n)) r m f h =
      ap (λ (q : List (Op C)). add_paces q (many n keep m)) (add_new (retain 1) r (omega arith) h) ∙ add_paces_many keep retain (λ k s. refl) n 1 (suc n) r m (omega arith)
  add_paces_unroll (insert []) r m f h = absurd (omega arith)
  add_paces_unroll (insert (c ∷ x)) r m f h =
      ap (λ (q : List (Op C)). add_paces q (puts x m)) (add_new (insert (c ∷ [])) r (omega arith) h) ∙ add_paces_puts x (c ∷ []) r m
  add_paces_unroll (delete zero) r m f h = absurd (omega arith)
  add_paces_unroll (delete (suc n)) r m f h =
      ap (λ (q : List (Op C)). add_paces q (many n skip m)) (add_new (delete 1) r (omega arith) h) ∙ add_paces_many skip delete (λ k s. refl) n 1 (suc n) r m (omega arith)

  -- what takes a full operation that may stand there from one side to the other takes a built sequence over
  slide : (F : List (Op C) → List (Op C) → List (Op C))
      → ((o : Op C) (r s : List (Op C)) → 0 < size o → Prev r (kind o) → F r (o ∷ s) ≡ F (o ∷ r) s)
      → (s : List (Op C)) → Links s → F [] s ≡ F (reverse s) []
  slide F over [] h = refl
  slide F over (o ∷ s) h = over o [] s h.0 tt ∙ go s o [] h
    where
      go : (s : List (Op C)) (o : Op C) (r : List (Op C)) → Links (o ∷ s) → F (o ∷ r) s ≡ F (reverse_aux s (o ∷ r)) []
      go [] o r h = refl
      go (q ∷ s) o r h = over q (o ∷ r) s h.2.0 h.1 ∙ go s q (o ∷ r) h.2

  pub build_again : (s : List (Op C)) → Built s → build s ≡ s
  unfolding build
  build_again s h = ap reverse (slide add_all (λ o r s f g. ap (λ (q : List (Op C)). add_all q s) (add_new o r f g)) s (built_links s h)) ∙ reverse-reverse s

  -- one operation more
  pub extend_build : (s : List (Op C)) (o : Op C) → Built s → extend s o ≡ build (s ++ (o ∷ []))
  unfolding extend build add_all
  extend_build s o h =
      let e : reverse s ≡ add_all [] s = ap reverse (sym (build_again s h)) ∙ reverse-reverse (add_all [] s) in
      ap (λ (r : List (Op C)). reverse (add r o)) e ∙ ap reverse (sym (add_all_append [] s (o ∷ [])))

  build_paces : (s : List (Op C)) → Built s → reverse (add_paces [] (paces s)) ≡ s
  unfolding paces add_all
  build_paces s h = ap reverse (slide (λ r s. add_paces r (paces s)) (λ o r s f g. add_paces_unroll o r (paces s) f g) s (built_links s h)) ∙ reverse-reverse s

  pub paces_inj : (a b : List (Op C)) → Built a → Built b → paces a ≡ paces b → a ≡ b
  paces_inj a b ha hb e = sym (build_paces a ha) ∙ ap (λ (m : List (Pace C)). reverse (add_paces [] m)) e ∙ build_paces b hb

  -- in its paces no put directly follows a skip
  quiet_paces : (j : ℕ) (s : List (Op C)) → Links s → T (next (delete j) s) → T (quiet (paces s))
  unfolding paces
  quiet_paces j [] h k = tt
  quiet_paces j (retain zero ∷ s) h k = absurd (omega arith)
  quiet_paces j (retain (suc n) ∷ s) h k = tt
  quiet_paces j (insert x ∷ s) h k = absurd k
  quiet_paces j (delete n ∷ s) h k = absurd k

  calm_paces : (s : List (Op C)) → Links s → T (calm (paces s))
  unfolding paces
  calm_paces [] h = tt
  calm_paces (retain n ∷ s) h = calm_keeps n (paces s) (calm_paces s h.2)
  calm_paces (insert x ∷ s) h = calm_puts x (paces s) (calm_paces s h.2)
  calm_paces (delete zero ∷ s) h = absurd (omega arith)
  calm_paces (delete (suc n) ∷ s) h =
      calm_skips n (paces s) ((both (quiet (paces s)) (calm (paces s))).1 (quiet_paces (suc n) s h.2 h.1, calm_paces s h.2))

module _ {C : Type 0} (x y : C) (apart : x ≢ y) where
  pub unique : (a b : List (Op C)) → Built a → Built b → base a ≡ base b
      → ((t : List C) → length t ≡ base a → apply a t ≡ apply b t) → a ≡ b
  unique a b ha hb e h =
      paces_inj a b ha hb
      (walk_unique x y apart (paces a) (paces b) (calm_paces a (built_links a ha)) (calm_paces b (built_links b hb)) (sym (base_paces a) ∙ e ∙ base_paces b)
      (λ t l. sym (apply_paces a t) ∙ h t (l ∙ sym (base_paces a)) ∙ apply_paces b t))
