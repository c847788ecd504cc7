-- When a third sequence means the first, then the second; and that this is shown piece by piece.
use Prim.Native.Nat.{ℕ, ◌+◌, ◌≤◌}
use native.Mathlib.Omega.{arith}
use native.Mathlib.Nat.{zero-add}
use mathlib.Core.Path.{◌≡◌, refl, sym, ◌∙◌}
use mathlib.Core.List.{List, [], ◌∷◌, ◌++◌, append_assoc, append-nil}
use lib.ListN.{length, drop, length-append, length-drop, take, length-take, take-append-drop}
use lib.Seq.{drop-drop, take-append-le, drop-append-le, length-take-le, drop_at, take_at}
use Rattle.edits.specs.Op.{Op, retain, insert, delete, takes, gives, total, base, target}
use Rattle.edits.specs.Apply.{writes, apply}
use Rattle.edits.proofs.Meaning.{Meaning, mean}

module _ {C : Type 0} where
  -- the text that an operation writes, on as many characters as it takes
  pub length_writes : (o : Op C) (t : List C) → takes o ≤ length t → length (writes o t) ≡ gives o
  length_writes (retain n) t h = length-take-le n t h
  length_writes (insert x) t h = refl
  length_writes (delete n) t h = refl

  pub length_apply : (s : List (Op C)) (t : List C) → base s ≤ length t → length (apply s t) ≡ target s
  length_apply [] t h = refl
  length_apply (o ∷ s) t h =
      let e : length (apply s (drop (takes o) t)) ≡ target s = length_apply s (drop (takes o) t) (simp length-drop (omega arith)) in
      simp length-append (omega (arith, length_writes o t (omega arith)))

  writes_append : (o : Op C) (t u : List C) → takes o ≤ length t → writes o (t ++ u) ≡ writes o t
  writes_append (retain n) t u h = take-append-le n t u h
  writes_append (insert x) t u h = refl
  writes_append (delete n) t u h = refl

  -- a sequence reads no more than its base
  pub apply_more : (s : List (Op C)) (t u : List C) → base s ≤ length t → apply s (t ++ u) ≡ apply s t
  apply_more [] t u h = refl
  apply_more (o ∷ s) t u h =
      rw (writes_append o t u (omega arith), drop-append-le (takes o) t u (omega arith), apply_more s (drop (takes o) t) u (simp length-drop (omega arith)))

  pub total_append : (f : Op C → ℕ) (s u : List (Op C)) → total f (s ++ u) ≡ total f s + total f u
  total_append f [] u = sym (zero-add (total f u))
  total_append f (o ∷ s) u = omega (arith, total_append f s u)

  pub apply_append : (s u : List (Op C)) (t : List C) → apply (s ++ u) t ≡ apply s t ++ apply u (drop (base s) t)
  apply_append [] u t = refl
  apply_append (o ∷ s) u t = rw (apply_append s u (drop (takes o) t), drop-drop, append_assoc)

pub record Composes {C : Type 0} (a b c : Meaning C) : Type 0 where
  pub meets : a.after ≡ b.before
  pub before : c.before ≡ a.before
  pub after : c.after ≡ b.after
  pub text : (t : List C) → a.before ≤ length t → c.text t ≡ b.text (a.text t)

module _ {C : Type 0} where
  pub composes_append : (a b c a' b' c' : List (Op C)) → Composes (mean a) (mean b) (mean c) → Composes (mean a') (mean b') (mean c')
      → Composes (mean (a ++ a')) (mean (b ++ b')) (mean (c ++ c'))
  composes_append a b c a' b' c' p q = record {
    meets = simp total_append (omega arith);
    before = simp total_append (omega arith);
    after = simp total_append (omega arith);
    text = λ t h.
        let h₁ : base a ≤ length t = omega (arith, total_append takes a a') in
        let h₂ : base a' ≤ length (drop (base a) t) = simp length-drop (omega (arith, total_append takes a a')) in
        let l : length (apply a t) ≡ base b = length_apply a t h₁ ∙ p.meets in
        rw (
          apply_append c c' t,
          p.before,
          p.text t h₁,
          q.text _ h₂,
          apply_append a a' t,
          apply_append b b',
          apply_more b (apply a t) _ (omega arith),
          drop_at (apply a t) _ (base b) l,
        );
  }

  pub composes_nil : Composes (mean {C = C} []) (mean []) (mean [])
  composes_nil = record { meets = refl; before = refl; after = refl; text = λ t h. refl }

  -- a retain before or after an operation changes nothing
  pub retain_before : (p : Op C) {n : ℕ} → takes p ≡ n → Composes (mean (retain n ∷ [])) (mean (p ∷ [])) (mean (p ∷ []))
  retain_before p {n} e = record {
    meets = omega arith;
    before = omega arith;
    after = refl;
    text = λ t h. simp append-nil (simp take-append-drop at (writes_append p (take n t) (drop n t) (simp length-take (omega arith))));
  }

  pub retain_after : (o : Op C) {n : ℕ} → gives o ≡ n → Composes (mean (o ∷ [])) (mean (retain n ∷ [])) (mean (o ∷ []))
  retain_after o {n} e = record {
    meets = omega arith;
    before = refl;
    after = omega arith;
    text = λ t h. rw (take_at (writes o t) [] n (length_writes o t (omega arith) ∙ e));
  }

  -- so an operation that gives or takes nothing goes by itself
  pub alone_before : (o : Op C) → gives o ≡ 0 → Composes (mean (o ∷ [])) (mean []) (mean (o ∷ []))
  alone_before o e = retain_after o e

  pub alone_after : (p : Op C) → takes p ≡ 0 → Composes (mean []) (mean (p ∷ [])) (mean (p ∷ []))
  alone_after p e = retain_before p e

  -- an insert that is deleted leaves nothing
  pub insert_delete : (x : List C) {n : ℕ} → length x ≡ n → Composes (mean (insert x ∷ [])) (mean (delete n ∷ [])) (mean [])
  insert_delete x e = record { meets = omega arith; before = omega arith; after = omega arith; text = λ t h. refl }
