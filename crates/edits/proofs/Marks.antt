-- Which characters of a text stay, and marks of them, carried through an edit.
use Prim.Native.Nat.{ℕ, ◌+◌, zero, suc}
use mathlib.Core.Path.{◌≡◌, sym, ap, ◌∙◌, refl, ap₂, subst}
use mathlib.Core.Bool.{Bool, true, false}
use mathlib.Core.List.{List, ◌++◌, append_assoc, [], ◌∷◌}
use lib.ListN.{replicate, replicate-append-replicate, length, length-append, length-replicate, take, drop, length-take, length-drop}
use native.Mathlib.Nat.{suc-ne-zero}
use native.Mathlib.Omega.{arith}
use lib.Seq.{drop_at, take_at, take-add, drop-drop, take-append-le, drop-append-le, take-append_seam, drop-append_seam, length-take-le}
use Rattle.edits.specs.Op.{Op, retain, insert, delete, size, takes, base, target}
use Rattle.edits.specs.Trace.{stays_by, stays, Within, none, more, typed, marked, carry}
use Rattle.edits.specs.Apply.{apply}
use Rattle.edits.proofs.Meaning.{Lasting}

joined : (m n : ℕ) (b : Bool) (l : List Bool) → replicate (m + n) b ++ l ≡ replicate m b ++ (replicate n b ++ l)
joined m n b l = ap (λ k. k ++ l) (sym (replicate-append-replicate m n b)) ∙ append_assoc (replicate m b) (replicate n b) l

-- ---- what stays

module _ {C : Type 0} where
  pub stays_none : (o : Op C) → takes o ≡ 0 → stays_by o ≡ []
  stays_none (retain zero) e = refl
  stays_none (retain (suc n)) e = absurd (suc-ne-zero _ e)
  stays_none (insert s) e = refl
  stays_none (delete zero) e = refl
  stays_none (delete (suc n)) e = absurd (suc-ne-zero _ e)

  takes_none : (o : Op C) → size o ≡ 0 → takes o ≡ 0
  takes_none (retain n) e = e
  takes_none (insert s) e = refl
  takes_none (delete n) e = e

  pub stays_lasts : Lasting {C = C} stays
  stays_lasts = record {
    behind = λ o s u e. ap (λ l. stays_by o ++ l) e;
    empty = λ o s e. ap (λ l. l ++ stays s) (stays_none o (takes_none o e));
    retains = λ m n s. joined m n true (stays s);
    inserts = λ x y s. refl;
    deletes = λ m n s. joined m n false (stays s);
    swap = λ x n s. refl;
  }

  pub stays_append : (s u : List (Op C)) → stays (s ++ u) ≡ stays s ++ stays u
  stays_append [] u = refl
  stays_append (o ∷ s) u = ap (λ l. stays_by o ++ l) (stays_append s u) ∙ sym (append_assoc (stays_by o) (stays s) (stays u))

  pub stays_length : (s : List (Op C)) → length (stays s) ≡ base s
  stays_length [] = refl
  stays_length (retain n ∷ s) = length-append (replicate n true) (stays s) ∙ ap₂ ◌+◌ (length-replicate n true) (stays_length s)
  stays_length (insert x ∷ s) = omega (arith, stays_length s)
  stays_length (delete n ∷ s) = length-append (replicate n false) (stays s) ∙ ap₂ ◌+◌ (length-replicate n false) (stays_length s)

-- ---- one mark within another

pub within_trans : {ls ms ns : List Bool} → Within ls ms → Within ms ns → Within ls ns
within_trans none none = none
within_trans (more f v) (more g w) = more (λ t. g (f t)) (within_trans v w)

within_append : {ls ms ls' ms' : List Bool} → Within ls ms → Within ls' ms' → Within (ls ++ ls') (ms ++ ms')
within_append none w = w
within_append (more f v) w = more f (within_append v w)

within_take : (n : ℕ) {ms ns : List Bool} → Within ms ns → Within (take n ms) (take n ns)
within_take zero w = none
within_take (suc n) none = none
within_take (suc n) (more f w) = more f (within_take n w)

within_drop : (n : ℕ) {ms ns : List Bool} → Within ms ns → Within (drop n ms) (drop n ns)
within_drop zero w = w
within_drop (suc n) none = none
within_drop (suc n) (more f w) = within_drop n w

within_true : (n : ℕ) (m : Bool) → Within (replicate n m) (replicate n true)
within_true zero m = none
within_true (suc n) m = more (λ _. tt) (within_true n m)

pub within_refl : (ms : List Bool) → Within ms ms
within_refl [] = none
within_refl (m ∷ ms) = more (λ t. t) (within_refl ms)

pub within_length : {ms ns : List Bool} → Within ms ns → length ms ≡ length ns
within_length none = refl
within_length (more f w) = ap suc (within_length w)

-- no character has the first mark
pub within_none : (n : ℕ) (ms : List Bool) → length ms ≡ n → Within (replicate n false) ms
within_none zero [] e = none
within_none zero (m ∷ ms) e = absurd (suc-ne-zero _ e)
within_none (suc n) [] e = absurd (suc-ne-zero _ (sym e))
within_none (suc n) (m ∷ ms) e = more (λ t. absurd t) (within_none n ms (omega arith))

within_rest : (n : ℕ) (b : Bool) (ms ns : List Bool) → Within ms (replicate n b ++ ns) → Within (drop n ms) ns
within_rest n b ms ns w = subst (Within (drop n ms)) (drop_at (replicate n b) ns n (length-replicate n b)) (within_drop n w)

split : (k m n : ℕ) → k + m ≡ n → replicate n false ≡ replicate k false ++ replicate m false
split k m n e = ap (λ j. replicate j false) (sym e) ∙ sym (replicate-append-replicate k m false)

each_text : {f g : List Bool → List Bool} → ((ms : List Bool) → f ms ≡ g ms) → f ≡ g
each_text e = λ i ms. e ms i

module _ {C : Type 0} where
  pub within_carry : (m : Bool) (s : List (Op C)) {ms ns : List Bool} → Within ms ns → Within (carry m s ms) (carry true s ns)
  within_carry m [] w = none
  within_carry m (retain n ∷ s) w = within_append (within_take n w) (within_carry m s (within_drop n w))
  within_carry m (insert x ∷ s) w = within_append (within_true (length x) m) (within_carry m s w)
  within_carry m (delete n ∷ s) w = within_carry m s (within_drop n w)

  pub carry_length : (m : Bool) (s : List (Op C)) (ms : List Bool) → length ms ≡ base s → length (carry m s ms) ≡ target s
  carry_length m [] ms e = refl
  carry_length m (retain n ∷ s) ms e =
      length-append (take n ms) _ ∙ ap₂ ◌+◌ (length-take-le n ms (omega arith)) (carry_length m s (drop n ms) (simp length-drop (omega arith)))
  carry_length m (insert x ∷ s) ms e =
      length-append (replicate (length x) m) _ ∙ ap₂ ◌+◌ (length-replicate (length x) m) (carry_length m s ms (omega arith))
  carry_length m (delete n ∷ s) ms e = omega (arith, carry_length m s (drop n ms) (simp length-drop (omega arith)))

  -- ---- carrying lasts as the builders join and move operations

  carry_behind : (m : Bool) (o : Op C) (s u : List (Op C)) → carry m s ≡ carry m u → carry m (o ∷ s) ≡ carry m (o ∷ u)
  carry_behind m (retain n) s u e = λ i ms. take n ms ++ e i (drop n ms)
  carry_behind m (insert x) s u e = λ i ms. replicate (length x) m ++ e i ms
  carry_behind m (delete n) s u e = λ i ms. e i (drop n ms)

  carry_empty : (m : Bool) (o : Op C) (s : List (Op C)) → size o ≡ 0 → carry m (o ∷ s) ≡ carry m s
  carry_empty m (retain zero) s e = refl
  carry_empty m (retain (suc n)) s e = absurd (suc-ne-zero _ e)
  carry_empty m (insert []) s e = refl
  carry_empty m (insert (c ∷ x)) s e = absurd (suc-ne-zero _ e)
  carry_empty m (delete zero) s e = refl
  carry_empty m (delete (suc n)) s e = absurd (suc-ne-zero _ e)

  pub carry_lasts : (m : Bool) → Lasting {C = C} (carry m)
  carry_lasts m = record {
    behind = carry_behind m;
    empty = carry_empty m;
    retains = λ j k s. each_text (λ ms. simp (take-add, drop-drop, append_assoc));
    inserts = λ x y s. each_text (λ ms. ap (λ n. replicate n m ++ carry m s ms) (length-append x y) ∙ joined (length x) (length y) m (carry m s ms));
    deletes = λ j k s. each_text (λ ms. simp drop-drop);
    swap = λ x n s. refl;
  }

  pub carry_append : (m : Bool) (s u : List (Op C)) (ms ns : List Bool) → length ms ≡ base s → carry m (s ++ u) (ms ++ ns) ≡ carry m s ms ++ carry m u ns
  carry_append m [] u [] ns e = refl
  carry_append m [] u (x ∷ ms) ns e = absurd (suc-ne-zero _ e)
  carry_append m (retain n ∷ s) u ms ns e =
      ap₂ ◌++◌ (take-append-le n ms ns (omega arith))
      (ap (carry m (s ++ u)) (drop-append-le n ms ns (omega arith)) ∙ carry_append m s u (drop n ms) ns (simp length-drop (omega arith)))
      ∙ sym (append_assoc (take n ms) (carry m s (drop n ms)) (carry m u ns))
  carry_append m (insert x ∷ s) u ms ns e =
      ap (λ l. replicate (length x) m ++ l) (carry_append m s u ms ns (omega arith))
      ∙ sym (append_assoc (replicate (length x) m) (carry m s ms) (carry m u ns))
  carry_append m (delete n ∷ s) u ms ns e =
      ap (carry m (s ++ u)) (drop-append-le n ms ns (omega arith)) ∙ carry_append m s u (drop n ms) ns (simp length-drop (omega arith))

  -- ---- marked characters

  marked_none : (ms : List Bool) → marked {C = C} ms [] ≡ []
  marked_none [] = refl
  marked_none (m ∷ ms) = refl

  pub marked_retain : (n : ℕ) (ms : List Bool) (t : List C) → marked (replicate n true ++ ms) t ≡ take n t ++ marked ms (drop n t)
  marked_retain zero ms t = refl
  marked_retain (suc n) ms [] = sym (marked_none ms)
  marked_retain (suc n) ms (c ∷ t) = ap (λ l. c ∷ l) (marked_retain n ms t)

  pub marked_delete : (n : ℕ) (ms : List Bool) (t : List C) → marked (replicate n false ++ ms) t ≡ marked ms (drop n t)
  marked_delete zero ms t = refl
  marked_delete (suc n) ms [] = sym (marked_none ms)
  marked_delete (suc n) ms (c ∷ t) = marked_delete n ms t

  marked_append : (ms ns : List Bool) (t u : List C) → length ms ≡ length t → marked (ms ++ ns) (t ++ u) ≡ marked ms t ++ marked ns u
  marked_append [] ns [] u e = refl
  marked_append [] ns (c ∷ t) u e = absurd (suc-ne-zero _ (sym e))
  marked_append (m ∷ ms) ns [] u e = absurd (suc-ne-zero _ e)
  marked_append (true ∷ ms) ns (c ∷ t) u e = ap (λ l. c ∷ l) (marked_append ms ns t u (omega arith))
  marked_append (false ∷ ms) ns (c ∷ t) u e = marked_append ms ns t u (omega arith)

  marked_split : (n : ℕ) (ms : List Bool) (t : List C) → marked ms t ≡ marked (take n ms) (take n t) ++ marked (drop n ms) (drop n t)
  marked_split zero ms t = refl
  marked_split (suc n) [] t = refl
  marked_split (suc n) (m ∷ ms) [] = sym (marked_none (drop n ms))
  marked_split (suc n) (true ∷ ms) (c ∷ t) = ap (λ l. c ∷ l) (marked_split n ms t)
  marked_split (suc n) (false ∷ ms) (c ∷ t) = marked_split n ms t

  marked_gone : (n : ℕ) (ms ns : List Bool) (t : List C) → Within ms (replicate n false ++ ns) → marked ms t ≡ marked (drop n ms) (drop n t)
  marked_gone zero ms ns t w = refl
  marked_gone (suc n) [] ns t w = elim w [ ]
  marked_gone (suc n) (true ∷ ms) ns t (more f w) = absurd (f tt)
  marked_gone (suc n) (false ∷ ms) ns [] (more f w) = sym (marked_none (drop n ms))
  marked_gone (suc n) (false ∷ ms) ns (c ∷ t) (more f w) = marked_gone n ms ns t w

  -- after what a sequence inserts, or retains
  marked_behind : (x y : List C) (n : ℕ) (ms : List Bool) → length x ≡ n → marked (replicate n false ++ ms) (x ++ y) ≡ marked ms y
  marked_behind x y n ms e = marked_delete n ms (x ++ y) ∙ ap (marked ms) (drop_at x y n e)

  -- an edit that keeps the marked characters: after it they are the same
  pub marked_carry : (s : List (Op C)) (ms : List Bool) (t : List C) → length t ≡ length ms → Within ms (stays s)
      → marked (carry false s ms) (apply s t) ≡ marked ms t
  marked_carry [] [] t e none = refl
  marked_carry [] (_ ∷ _) t e w = elim w [ ]
  marked_carry (retain n ∷ s) ms t e w =
      marked_append (take n ms) _ (take n t) _ (simp length-take (omega arith))
      ∙ ap (λ l. marked (take n ms) (take n t) ++ l) (marked_carry s (drop n ms) (drop n t) (simp length-drop (omega arith)) (within_rest n true ms (stays s) w))
      ∙ sym (marked_split n ms t)
  marked_carry (insert x ∷ s) ms t e w = marked_behind x _ (length x) _ refl ∙ marked_carry s ms t e w
  marked_carry (delete n ∷ s) ms t e w =
      marked_carry s (drop n ms) (drop n t) (simp length-drop (omega arith)) (within_rest n false ms (stays s) w) ∙ sym (marked_gone n ms (stays s) t w)

  -- the characters that an edit typed
  pub marked_typed : (s : List (Op C)) (n : ℕ) (t : List C) → base s ≡ n → length t ≡ n → marked (carry true s (replicate n false)) (apply s t) ≡ typed s
  marked_typed [] n t e l = refl
  marked_typed (retain k ∷ s) n t e l =
      let p = split k (base s) n e in
      ap (λ ms. marked (take k ms ++ carry true s (drop k ms)) (take k t ++ apply s (drop k t))) p
      ∙ ap₂ (λ x y. marked (x ++ carry true s y) (take k t ++ apply s (drop k t))) (take_at (replicate k false) _ k (length-replicate k false)) (drop_at (replicate k false) _ k (length-replicate k false))
      ∙ marked_behind (take k t) _ k _ (length-take-le k t (omega arith))
      ∙ marked_typed s (base s) (drop k t) refl (simp length-drop (omega arith))
  marked_typed (insert x ∷ s) n t e l =
      marked_retain (length x) (carry true s (replicate n false)) (x ++ apply s t)
      ∙ ap₂ (λ y u. y ++ marked (carry true s (replicate n false)) u) (take-append_seam x (apply s t)) (drop-append_seam x (apply s t))
      ∙ ap (λ u. x ++ u) (marked_typed s n t (omega arith) l)
  marked_typed (delete k ∷ s) n t e l =
      ap (λ ms. marked (carry true s (drop k ms)) (apply s (drop k t))) (split k (base s) n e)
      ∙ ap (λ y. marked (carry true s y) (apply s (drop k t))) (drop_at (replicate k false) _ k (length-replicate k false))
      ∙ marked_typed s (base s) (drop k t) refl (simp length-drop (omega arith))
