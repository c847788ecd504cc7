-- What can be told of a sequence and lasts as the builders join and move operations; above all what it means.
use Prim.Native.Nat.{ℕ, zero, suc, ◌<◌, ◌+◌, ◌-◌, ◌≤◌, min}
use native.Mathlib.Omega.{arith}
use mathlib.Core.Path.{◌≡◌, refl, sym, ap, ◌∙◌}
use mathlib.Core.List.{List, ◌∷◌, ◌++◌, [], reverse_aux, append_assoc}
use native.Mathlib.Nat.{add-sub_of_le, suc-ne-zero}
use lib.ListN.{take, drop, take-append-drop, length, length-drop, length-append}
use lib.Seq.{take-add, drop-drop}
use Rattle.edits.specs.Op.{if_zero, Op, retain, insert, delete, size, cut, rest, front, takes, gives, base, target}
use Rattle.edits.specs.Apply.{writes, apply}

pub if_zero_elim : {A : Type 0} (P : A → Type 0) (n : ℕ) {x y : A} → (n ≡ 0 → P x) → (0 < n → P y) → P (if_zero n x y)
if_zero_elim P zero f g = f refl
if_zero_elim P (suc n) f g = g (omega arith)

-- neighbours of one kind are one, an insert may go before a delete, and an empty operation counts for nothing
pub record Lasting {C A : Type 0} (R : List (Op C) → A) : Type 0 where
  pub behind : (o : Op C) (s u : List (Op C)) → R s ≡ R u → R (o ∷ s) ≡ R (o ∷ u)
  pub empty : (o : Op C) (s : List (Op C)) → size o ≡ 0 → R (o ∷ s) ≡ R s
  pub retains : (m n : ℕ) (s : List (Op C)) → R (retain (m + n) ∷ s) ≡ R (retain m ∷ retain n ∷ s)
  pub inserts : (x y : List C) (s : List (Op C)) → R (insert (x ++ y) ∷ s) ≡ R (insert x ∷ insert y ∷ s)
  pub deletes : (m n : ℕ) (s : List (Op C)) → R (delete (m + n) ∷ s) ≡ R (delete m ∷ delete n ∷ s)
  pub swap : (x : List C) (n : ℕ) (s : List (Op C)) → R (insert x ∷ delete n ∷ s) ≡ R (delete n ∷ insert x ∷ s)

module _ {C A : Type 0} (R : List (Op C) → A) (K : Lasting R) where
  pub behind_all : (x s u : List (Op C)) → R s ≡ R u → R (x ++ s) ≡ R (x ++ u)
  behind_all [] s u e = e
  behind_all (o ∷ x) s u e = K.behind o (x ++ s) (x ++ u) (behind_all x s u e)

  pub behind_reverse : (r s u : List (Op C)) → R s ≡ R u → R (reverse_aux r s) ≡ R (reverse_aux r u)
  behind_reverse [] s u e = e
  behind_reverse (o ∷ r) s u e = behind_reverse r (o ∷ s) (o ∷ u) (K.behind o s u e)

  -- an operation that is cut in two
  pub cut_rest : (k : ℕ) (o : Op C) (s : List (Op C)) → k ≤ size o → R (cut k o ∷ rest k o ∷ s) ≡ R (o ∷ s)
  cut_rest k (retain n) s h = sym (K.retains k (n - k) s) ∙ ap (λ (m : ℕ). R (retain m ∷ s)) (add-sub_of_le h)
  cut_rest k (insert x) s h = sym (K.inserts (take k x) (drop k x) s) ∙ ap (λ (y : List C). R (insert y ∷ s)) (take-append-drop k x)
  cut_rest k (delete n) s h = sym (K.deletes k (n - k) s) ∙ ap (λ (m : ℕ). R (delete m ∷ s)) (add-sub_of_le h)

  pub front_same : (o : Op C) (s : List (Op C)) → R (front o s) ≡ R (o ∷ s)
  front_same o s = if_zero_elim (λ u. R u ≡ R (o ∷ s)) (size o) (λ e. sym (K.empty o s e)) (λ _. refl)

module _ {C : Type 0} where
  pub size_rest : (k : ℕ) (o : Op C) → size (rest k o) ≡ size o - k
  size_rest k (retain n) = refl
  size_rest k (insert x) = length-drop k x
  size_rest k (delete n) = refl

  pub length_front : (o : Op C) (s : List (Op C)) → length (front o s) ≡ min (size o) 1 + length s
  length_front o s =
      let P : List (Op C) → Type 0 = λ u. length u ≡ min (size o) 1 + length s in
      if_zero_elim P (size o) (λ e. omega arith) (λ h. omega arith)

-- ---- what a sequence means: its base, its target and the text it makes
pub record Meaning (C : Type 0) : Type 0 where
  pub before : ℕ
  pub after : ℕ
  pub text : List C → List C

module _ {C : Type 0} where
  abbrev pub mean : List (Op C) → Meaning C
  mean s = record { before = base s; after = target s; text = apply s }

  same : {a b : Meaning C} → a.before ≡ b.before → a.after ≡ b.after → ((t : List C) → a.text t ≡ b.text t) → a ≡ b
  same p q r = λ i. record { before = p i; after = q i; text = λ t. r t i }

  -- `mean (o ∷ s)` is `act o (mean s)`
  abbrev act : Op C → Meaning C → Meaning C
  act o m = record { before = takes o + m.before; after = gives o + m.after; text = λ t. writes o t ++ m.text (drop (takes o) t) }

  mean_empty : (o : Op C) (s : List (Op C)) → size o ≡ 0 → mean (o ∷ s) ≡ mean s
  mean_empty (retain zero) s e = same (omega arith) (omega arith) (λ t. refl)
  mean_empty (retain (suc n)) s e = absurd (suc-ne-zero _ e)
  mean_empty (insert []) s e = same (omega arith) (omega arith) (λ t. refl)
  mean_empty (insert (c ∷ x)) s e = absurd (suc-ne-zero _ e)
  mean_empty (delete zero) s e = same (omega arith) (omega arith) (λ t. refl)
  mean_empty (delete (suc n)) s e = absurd (suc-ne-zero _ e)

  pub mean_lasts : Lasting mean
  mean_lasts = record {
    behind = λ o s u e. ap (act o) e;
    empty = mean_empty;
    retains = λ m n s. same (omega arith) (omega arith) (λ t. simp (take-add, drop-drop, append_assoc));
    inserts = λ x y s. same (omega arith) (simp length-append (omega arith)) (λ t. append_assoc x y (apply s t));
    deletes = λ m n s. same (omega arith) (omega arith) (λ t. simp drop-drop);
    swap = λ x n s. same (omega arith) (omega arith) (λ t. refl);
  }
