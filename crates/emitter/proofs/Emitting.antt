-- The emitter's operations and text, at their places in the buffer.
use Rattle.std.specs.Prelude.{◌≡◌, ℕ, ◌+◌, ◌*◌, ◌^◌, ◌<◌, ◌≤◌, List, [], ◌∷◌, ◌++◌, length}
use mathlib.Core.Path.{ap, refl, sym, ◌∙◌}
use native.Mathlib.Omega.{arith}
use mathlib.Core.List.{append-nil}
use lib.ListN.{length-append}
use Rattle.buffers.specs.InnerOver.{over, bytes16}
use Rattle.buffers.proofs.Over.{over_swap, over_join}
use Rattle.characters.specs.Text.{Char, bytes}
use Rattle.edits.specs.Sequence.{Seq}
use Rattle.edits.specs.Op.{size, Op, retain, insert, delete}
use Rattle.edits.proofs.Meaning.{if_zero_elim}
use Rattle.record.specs.Layout.{kinds_start, counts_start, start_of_text}
use Rattle.record.specs.Record.{in_bytes, code, inserted}
use Rattle.record.proofs.Sequences.{in_bytes_size}
use Rattle.places.specs.InnerOps.{one, written_op, written_op_if_any, flushed_at}
use Rattle.emitter.specs.InnerEmit.{flushed_ops, flushed, opens, flushed_if_closed, Under, kinds_of, counts_of, laid, kept, texts_of, group}
use Rattle.places.proofs.Writing.{one_none, one_some, one_few, emitted_none, emitted_some, emitted_over}
use Rattle.emitter.specs.declared.inner.Emitter.{Emitter}
use Rattle.emitter.proofs.Loops.{empty_bytes}

pub flushed_few : (e : Emitter) → flushed_ops e ≤ e.ops + 3
flushed_few e = omega (arith, one_few e.ins, one_few e.del, one_few e.ret)

-- ---- `one_if_any`, `reopened`, `flush_if_closed`

module _ (e : Emitter) where
  pub opens_same : e.ret ≡ 0 → e ≡ opens e
  unfolding opens
  opens_same z = rw z

  abbrev again : ℕ → Emitter
  again r = record { ins = 0; del = 0; ret = 0; ops = r; text = e.text; base = e.base; target = e.target }

  pub opens_again : {x y z : ℕ} → (e.ret ≡ 0 → ⊥) → x ≡ one e.ins → y ≡ one e.del → z ≡ one e.ret
      → record { ins = 0; del = 0; ret = 0; ops = e.ops + x + y + z; text = e.text; base = e.base; target = e.target } ≡ opens e
  unfolding opens
  opens_again {x} {y} {z} h p q r =
      let s : e.ops + x + y + z ≡ flushed_ops e = simp (p, q, r) in
      ap again s ∙ sym (if_zero_elim (λ w. w ≡ again (flushed_ops e)) e.ret (λ w. absurd (h w)) (λ _. refl))

  pub opens_few : Under (2 ^ 40) e → Under (2 ^ 40 + 3) e
  opens_few u = omega arith

  pub opens_less : {x y z : ℕ} → x ≤ 1 → y ≤ 1 → z ≤ 1 → Under (2 ^ 40) e → Under (2 ^ 40 + 3) (again (e.ops + x + y + z))
  opens_less p q r u = omega arith

  pub spilled_same : (n : ℕ) (o : List ℕ) → e.ret ≤ 0 → o ≡ flushed_if_closed n e o
  unfolding flushed_if_closed
  spilled_same n o h = let z : e.ret ≡ 0 = omega arith in rw z

  pub spilled_again : (n : ℕ) (o : List ℕ) {o₁ : List ℕ} → 0 < e.ret → o₁ ≡ flushed n e o → o₁ ≡ flushed_if_closed n e o
  unfolding flushed_if_closed
  spilled_again n o h p = p ∙ sym (if_zero_elim (λ w. w ≡ flushed n e o) e.ret (λ w. absurd (omega arith)) (λ _. refl))

pub flushed_none : (n : ℕ) (e : Emitter) → flushed n e [] ≡ []
unfolding flushed_at
flushed_none n e = simp emitted_over

-- ---- the parts of a record

pub length_kinds : (r : Seq) → length (kinds_of r) ≡ length r
unfolding kinds_of
length_kinds [] = refl
length_kinds (o ∷ r) = omega (arith, length-append (kinds_of r) (code (in_bytes o) ∷ []), length_kinds r)

pub length_counts : (r : Seq) → length (counts_of r) ≡ 2 * length r
unfolding counts_of
length_counts [] = refl
length_counts (o ∷ r) = omega (arith, length-append (counts_of r) (bytes16 (size (in_bytes o))), length_counts r)

module _ (n : ℕ) (s : Seq) (t out : List ℕ) where
  -- one operation more
  pub lay_record : (o : Op Char) → length s < n → written_op n (length s) (code (in_bytes o)) (size (in_bytes o)) (laid n s t out) ≡ laid n (o ∷ s) t out
  unfolding laid kinds_of counts_of
  lay_record o h =
      let k = code (in_bytes o) ∷ [] in
      let c = bytes16 (size (in_bytes o)) in
      let y = over (start_of_text n) t out in
      let x = over (counts_start n) (counts_of s) y in
      let a : over (kinds_start + length s) k (over kinds_start (kinds_of s) x) ≡ over kinds_start (kinds_of s ++ k) x =
      rw (← length_kinds s) (over_join kinds_start (kinds_of s) k x) in
      let b : over (counts_start n + 2 * length s) c x ≡ over (counts_start n) (counts_of s ++ c) y =
      rw (← length_counts s) (over_join (counts_start n) (counts_of s) c y) in
      ap (over (counts_start n + 2 * length s) c) a
      ∙ over_swap kinds_start (counts_start n + 2 * length s) (kinds_of s ++ k) c x (omega (arith, length-append (kinds_of s) k, length_kinds s))
      ∙ ap (over kinds_start (kinds_of s ++ k)) b

  -- more text
  pub lay_text : (u : List ℕ) → length s ≤ n → over (start_of_text n + length t) u (laid n s t out) ≡ laid n s (t ++ u) out
  unfolding laid
  lay_text u h =
      let q = start_of_text n + length t in
      let y = over (start_of_text n) t out in
      over_swap kinds_start q (kinds_of s) u (over (counts_start n) (counts_of s) y) (omega (arith, length_kinds s))
      ∙ ap (over kinds_start (kinds_of s)) (over_swap (counts_start n) q (counts_of s) u y (omega (arith, length_counts s)) ∙ ap (over (counts_start n) (counts_of s)) (over_join (start_of_text n) t u out))

-- ---- an operation in front, unless it is empty

kept_elim : (P : Seq → Type 0) (o : Op Char) (s : Seq) → (size (in_bytes o) ≡ 0 → P s) → (0 < size (in_bytes o) → P (o ∷ s)) → P (kept o s)
kept_elim P o s f g = if_zero_elim P (size o) (λ e. f (empty_bytes o e)) (λ h. g (in_bytes_size o h))

module _ (o : Op Char) (s : Seq) where
  length_kept : length (kept o s) ≡ length s + one (size (in_bytes o))
  length_kept =
      let c = size (in_bytes o) in
      kept_elim (λ u. length u ≡ length s + one c) o s (λ e. omega (arith, one_none c e)) (λ h. omega (arith, one_some c h))

  text_kept : texts_of (kept o s) ≡ texts_of s ++ inserted (in_bytes o)
  unfolding texts_of
  text_kept = kept_elim (λ u. texts_of u ≡ texts_of s ++ inserted (in_bytes o)) o s (λ e. rw (none (in_bytes o) e) (sym (append-nil (texts_of s)))) (λ h. refl)
    where
      none : (o : Op ℕ) → size o ≡ 0 → inserted o ≡ []
      none (retain n) e = refl
      none (insert []) e = refl
      none (insert (b ∷ t)) e = absurd (omega arith)
      none (delete n) e = refl

  lay_kept : (n : ℕ) (t out : List ℕ) → length s + one (size (in_bytes o)) ≤ n
      → written_op_if_any n (length s) (code (in_bytes o)) (size (in_bytes o)) (laid n s t out) ≡ laid n (kept o s) t out
  lay_kept n t out h =
      let c = size (in_bytes o) in
      let k = code (in_bytes o) in
      kept_elim (λ u. written_op_if_any n (length s) k c (laid n s t out) ≡ laid n u t out) o s (λ e. emitted_none n (length s) k c _ e)
      (λ p. emitted_some n (length s) k c _ p ∙ lay_record n s t out o (omega (arith, one_some c p)))

-- ---- the pending group

pub group_text : (x : List Char) (d r : ℕ) (s : Seq) → texts_of (group x d r s) ≡ texts_of s ++ bytes x
unfolding in_bytes
group_text x d r s =
    text_kept (retain r) (kept (delete d) (kept (insert x) s)) ∙ append-nil _
    ∙ text_kept (delete d) (kept (insert x) s) ∙ append-nil _
    ∙ text_kept (insert x) s

module _ (e : Emitter) (x : List Char) (s : Seq) (p : length s ≡ e.ops) (q : length (bytes x) ≡ e.ins) where
  abbrev s₁ : Seq
  s₁ = kept (insert x) s

  abbrev s₂ : Seq
  s₂ = kept (delete e.del) s₁

  length_s₁ : length s₁ ≡ e.ops + one e.ins
  unfolding in_bytes
  length_s₁ = rw (← p, ← q) (length_kept (insert x) s)

  length_s₂ : length s₂ ≡ e.ops + one e.ins + one e.del
  unfolding in_bytes
  length_s₂ = rw (← length_s₁) (length_kept (delete e.del) s₁)

  pub group_length : length (group x e.del e.ret s) ≡ flushed_ops e
  unfolding in_bytes
  group_length = rw (← length_s₂) (length_kept (retain e.ret) s₂)

  pub lay_group : (n : ℕ) (t out o : List ℕ) → flushed_ops e ≤ n → o ≡ laid n s t out → flushed n e o ≡ laid n (group x e.del e.ret s) t out
  unfolding flushed_at in_bytes
  lay_group n t out o h w =
      let a : written_op_if_any n e.ops 2 e.ins o ≡ laid n s₁ t out = rw (w, ← p, ← q) (lay_kept (insert x) s n t out (omega (arith, ap one q))) in
      let b : written_op_if_any n (e.ops + one e.ins) 3 e.del (laid n s₁ t out) ≡ laid n s₂ t out = rw (← length_s₁) (lay_kept (delete e.del) s₁ n t out (omega (arith, length_s₁))) in
      let d : written_op_if_any n (e.ops + one e.ins + one e.del) 1 e.ret (laid n s₂ t out) ≡ laid n (kept (retain e.ret) s₂) t out =
      rw (← length_s₂) (lay_kept (retain e.ret) s₂ n t out (omega (arith, length_s₂))) in
      rw (a, b) d
