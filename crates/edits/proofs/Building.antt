-- What the builders make is built, and all that lasts lasts.
use mathlib.Core.Path.{◌≡◌, refl, sym, ◌∙◌}
use mathlib.Core.List.{List, [], ◌∷◌, reverse_aux, ◌++◌, reverse}
use Prim.Native.Nat.{◌<◌}
use native.Mathlib.Omega.{arith}
use lib.Dec.{T}
use lib.ListN.{length-append}
use Rattle.edits.specs.Op.{Op, retain, insert, delete, size}
use Rattle.edits.specs.Build.{put, add, add_all, build}
use Rattle.edits.specs.Built.{Kind, follows, kind, Built}
use Rattle.edits.proofs.Meaning.{if_zero_elim, Lasting, behind_reverse, mean, mean_lasts}
use Rattle.edits.proofs.Links.{Links, built_links, links_built}

module _ {C A : Type 0} (R : List (Op C) → A) (K : Lasting R) where
  put_same : (o : Op C) (r s : List (Op C)) → R (reverse_aux (put o r) s) ≡ R (reverse_aux r (o ∷ s))
  unfolding put
  put_same o [] s = refl
  put_same (retain n) (retain m ∷ r) s = behind_reverse R K r _ _ (K.retains m n s)
  put_same (retain n) (insert x ∷ r) s = refl
  put_same (retain n) (delete m ∷ r) s = refl
  put_same (insert y) (retain m ∷ r) s = refl
  put_same (insert y) (insert x ∷ r) s = behind_reverse R K r _ _ (K.inserts x y s)
  put_same (insert y) (delete m ∷ []) s = K.swap y m s
  put_same (insert y) (delete m ∷ retain k ∷ r) s = behind_reverse R K (retain k ∷ r) _ _ (K.swap y m s)
  put_same (insert y) (delete m ∷ insert x ∷ r) s = behind_reverse R K r _ _ (K.inserts x y (delete m ∷ s) ∙ K.behind (insert x) _ _ (K.swap y m s))
  put_same (insert y) (delete m ∷ delete k ∷ r) s = behind_reverse R K (delete k ∷ r) _ _ (K.swap y m s)
  put_same (delete n) (retain m ∷ r) s = refl
  put_same (delete n) (insert x ∷ r) s = refl
  put_same (delete n) (delete m ∷ r) s = behind_reverse R K r _ _ (K.deletes m n s)

  pub add_same : (r : List (Op C)) (o : Op C) (s : List (Op C)) → R (reverse_aux (add r o) s) ≡ R (reverse_aux r (o ∷ s))
  unfolding add
  add_same r o s =
      if_zero_elim (λ q. R (reverse_aux q s) ≡ R (reverse_aux r (o ∷ s))) (size o) (λ e. behind_reverse R K r _ _ (sym (K.empty o s e))) (λ _. put_same o r s)

  add_all_same : (r s : List (Op C)) → R (reverse_aux (add_all r s) []) ≡ R (reverse_aux r s)
  unfolding add_all
  add_all_same r [] = refl
  add_all_same r (o ∷ s) = add_all_same (add r o) s ∙ add_same r o s

  pub build_same : (s : List (Op C)) → R (build s) ≡ R s
  unfolding build
  build_same s = add_all_same [] s

module _ {C : Type 0} where
  -- the builders take their steps in any number of goes
  pub add_all_append : (r s u : List (Op C)) → add_all r (s ++ u) ≡ add_all (add_all r s) u
  unfolding add_all
  add_all_append r [] u = refl
  add_all_append r (o ∷ s) u = add_all_append (add r o) s u

  pub build_mean : (s : List (Op C)) → mean (build s) ≡ mean s
  build_mean = build_same mean mean_lasts

  -- ---- `Built`, of a sequence held last operation first
  abbrev pub Prev : List (Op C) → Kind → Type 0
  Prev [] k = Unit {0}
  Prev (p ∷ r) k = T (follows (kind p) k)

  abbrev pub Back : List (Op C) → Type 0
  Back [] = Unit {0}
  Back (o ∷ r) = (0 < size o) × Prev r (kind o) × Back r

  abbrev Joint : List (Op C) → List (Op C) → Type 0
  Joint r [] = Unit {0}
  Joint r (o ∷ s) = Prev r (kind o)

  back_built : (r s : List (Op C)) → Back r → Joint r s → Links s → Links (reverse_aux r s)
  back_built [] s b j h = h
  back_built (o ∷ r) [] b j h = back_built r (o ∷ []) b.2 b.1 (b.0, tt, tt)
  back_built (o ∷ r) (p ∷ s) b j h = back_built r (o ∷ p ∷ s) b.2 b.1 (b.0, j, h)

  -- and the other way
  links_back : (o : Op C) (s r : List (Op C)) → Links (o ∷ s) → Prev r (kind o) → Back r → Back (reverse_aux s (o ∷ r))
  links_back o [] r h p b = (h.0, p, b)
  links_back o (q ∷ s) r h p b = links_back q s (o ∷ r) h.2 h.1 (h.0, p, b)

  pub built_back : (s : List (Op C)) → Built s → Back (reverse s)
  built_back s h = go s (built_links s h)
    where
      go : (s : List (Op C)) → Links s → Back (reverse s)
      go [] h = tt
      go (o ∷ s) h = links_back o s [] h tt tt

  back_put : (o : Op C) (r : List (Op C)) → 0 < size o → Back r → Back (put o r)
  unfolding put
  back_put o [] h b = (h, tt, tt)
  back_put (retain n) (retain m ∷ r) h b = (omega arith, b.1, b.2)
  back_put (retain n) (insert x ∷ r) h b = (h, tt, b)
  back_put (retain n) (delete m ∷ r) h b = (h, tt, b)
  back_put (insert y) (retain m ∷ r) h b = (h, tt, b)
  back_put (insert y) (insert x ∷ r) h b = (simp length-append (omega arith), b.1, b.2)
  back_put (insert y) (delete m ∷ []) h b = (b.0, tt, (h, tt, tt))
  back_put (insert y) (delete m ∷ retain k ∷ r) h b = (b.0, tt, (h, tt, b.2))
  back_put (insert y) (delete m ∷ insert x ∷ r) h b = (b.0, tt, (simp length-append (omega arith), b.2.1, b.2.2))
  back_put (insert y) (delete m ∷ delete k ∷ r) h b = absurd b.1
  back_put (delete n) (retain m ∷ r) h b = (h, tt, b)
  back_put (delete n) (insert x ∷ r) h b = (h, tt, b)
  back_put (delete n) (delete m ∷ r) h b = (omega arith, b.1, b.2)

  back_add_all : (r s : List (Op C)) → Back r → Back (add_all r s)
  unfolding add_all add
  back_add_all r [] b = b
  back_add_all r (o ∷ s) b = back_add_all (add r o) s (if_zero_elim Back (size o) (λ _. b) (λ h. back_put o r h b))

  pub build_built : (s : List (Op C)) → Built (build s)
  unfolding build
  build_built s = links_built _ (back_built (add_all [] s) [] (back_add_all [] s tt) tt tt)
