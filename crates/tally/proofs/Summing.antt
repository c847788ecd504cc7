-- What the sums are of.
use Rattle.std.specs.Prelude.{◌≡◌, ℕ, zero, suc, ◌+◌, ◌-◌, ◌≤◌, Bool, true, false, cond, ◌&&◌, eqb, List, [], ◌∷◌, take, drop, Some, None}
use native.Mathlib.Omega.{arith}
use mathlib.Core.Path.{refl, sym, ap, ◌∙◌}
use borrow.Author.Tests.{eq-eqb, ne_eqb, eqb-true}
use lib.Seq.{take-take}
use Rattle.buffers.specs.Lists.{all_of}
use Rattle.buffers.proofs.Tests.{known}
use Rattle.characters.specs.Chars.{number_of_chars}
use Rattle.edits.specs.Built.{chained}
use Rattle.edits.specs.Op.{retain, insert, delete, takes, total, base}
use Rattle.record.specs.Record.{sound_entry, Entry, entry_at, entries_from, operations, insert_bytes, entries, text_of, byte_ops, ByteSeq, gives_chars}
use Rattle.record.specs.Layout.{kind_at, count_at, op_count_of, text_bytes_of, start_of_text}
use Rattle.entries.specs.declared.inner.Tally.{Tally}
use Rattle.entries.specs.InnerTally.{picked, invalid, sum_from, Tallied, of_kind}
use Rattle.entries.proofs.Tallying.{holds_all, none_clashes, chars_part}
use Rattle.tally.specs.InnerSums.{keeps, sums_of, entries_of}
use Rattle.tally.specs.declared.inner.Sums.{Sums}

module _ (r : List ℕ) where
  invalid_none : (i n : ℕ) → eqb (sum_from (λ k. invalid (entry_at r k)) i n) 0 ≡ all_of sound_entry (entries_from r i n)
  invalid_none i zero = refl
  invalid_none i (suc n) = holds_all (sound_entry (entry_at r i)) _ ∙ ap (λ b. sound_entry (entry_at r i) && b) (invalid_none (suc i) n)

  inserts_sum : (i n : ℕ) → sum_from (λ k. of_kind 2 (entry_at r k)) i n ≡ insert_bytes (entries_from r i n)
  inserts_sum i zero = refl
  inserts_sum i (suc n) = go (eqb (kind_at r i) 2) (count_at r i) (inserts_sum (suc i) n)
    where
      go : (b : Bool) (c : ℕ) {x y : ℕ} → x ≡ y → picked b c + x ≡ cond b (c + y) y
      go true c h = omega arith
      go false c h = omega arith

  -- whatever the text
  kept_sum : (i n : ℕ) (t : List ℕ) → sum_from (λ k. of_kind 1 (entry_at r k)) i n ≡ total keeps (operations (entries_from r i n) t)
  kept_sum i zero t = refl
  kept_sum i (suc n) t = go (eqb (kind_at r i) 1) (eqb (kind_at r i) 2) (count_at r i) (kept_sum (suc i) n _)
    where
      go : (a b : Bool) (c : ℕ) {x y : ℕ} → x ≡ y → picked a c + x ≡ keeps (cond a (retain c) (cond b (insert (take c t)) (delete c))) + y
      go true b c h = omega arith
      go false true c h = omega arith
      go false false c h = omega arith

  base_sum : (i n : ℕ) (t : List ℕ) → sum_from (count_at r) i n ≡ insert_bytes (entries_from r i n) + base (operations (entries_from r i n) t)
  base_sum i zero t = refl
  base_sum i (suc n) t =
      let u = cond (eqb (kind_at r i) 2) (drop (count_at r i) t) t in
      go (eqb (kind_at r i) 1) (eqb (kind_at r i) 2) refl refl (count_at r i) (insert_bytes (entries_from r (suc i) n)) (base (operations (entries_from r (suc i) n) u)) (base_sum (suc i) n u)
    where
      go : (a b : Bool) → eqb (kind_at r i) 1 ≡ a → eqb (kind_at r i) 2 ≡ b → (c y z : ℕ) {x : ℕ} → x ≡ y + z → c + x ≡ cond b (c + y) y + (takes (cond a (retain c) (cond b (insert (take c t)) (delete c))) + z)
      go true true p q c y z h = absurd (omega (arith, eqb-true (kind_at r i) 1 p, eqb-true (kind_at r i) 2 q))
      go true false p q c y z h = omega arith
      go false true p q c y z h = omega arith
      go false false p q c y z h = omega arith

-- the passes, as the code finds them
module _ (r : List ℕ) (n : ℕ) (t : Tally) (e : n ≡ op_count_of r) (g : Tallied r n t) where
  none_invalid : eqb t.invalid 0 ≡ all_of sound_entry (entries r)
  unfolding entries
  none_invalid = g.invalids ∙ invalid_none r 0 n ∙ ap (λ m. all_of sound_entry (entries_from r 0 m)) e

  pub sums_unsound : (t.invalid ≡ 0 → ⊥) → None ≡ entries_of r
  unfolding entries_of
  sums_unsound z = rw (sym none_invalid ∙ ne_eqb t.invalid 0 z)

  module _ (z : t.invalid ≡ 0) where
    all_sound : all_of sound_entry (entries r) ≡ true
    all_sound = sym none_invalid ∙ eq-eqb t.invalid 0 z

    pub sums_found : Some (record { inserts = t.inserts; ordered = eqb t.clashes 0; base = t.all - t.inserts; kept = t.kept }) ≡ entries_of r
    unfolding entries_of sums_of entries byte_ops
    sums_found =
        let x : t.inserts ≡ insert_bytes (entries r) = g.inserted ∙ inserts_sum r 0 n ∙ ap (λ m. insert_bytes (entries_from r 0 m)) e in
        let y : t.all ≡ insert_bytes (entries r) + base (byte_ops r) = g.counts ∙ base_sum r 0 n (text_of r) ∙ ap (λ m. insert_bytes (entries_from r 0 m) + base (operations (entries_from r 0 m) (text_of r))) e in
        let w : t.all - t.inserts ≡ base (byte_ops r) = omega arith in
        let v : t.kept ≡ total keeps (byte_ops r) = g.retained ∙ kept_sum r 0 n (text_of r) ∙ ap (λ m. total keeps (operations (entries_from r 0 m) (text_of r))) e in
        rw (all_sound) (λ i. Some (record { inserts = x i; ordered = (ap (λ j. eqb j 0) (g.neighbours z) ∙ none_clashes r n e (known all_sound)) i; base = w i; kept = v i }))

keeps_less : (s : ByteSeq) → total keeps s ≤ base s
keeps_less [] = omega arith
keeps_less (retain n ∷ s) = omega (arith, keeps_less s)
keeps_less (insert t ∷ s) = omega (arith, keeps_less s)
keeps_less (delete n ∷ s) = omega (arith, keeps_less s)

-- kept and inserted characters are those of the text after the edit
kept_target : (es : List Entry) (t : List ℕ) → total keeps (operations es t) + number_of_chars (take (insert_bytes es) t) ≡ total gives_chars (operations es t)
kept_target [] t = refl
kept_target (e ∷ es) t = go (eqb e.kind 1) (eqb e.kind 2) refl refl (λ u. kept_target es u)
  where
    go : (a b : Bool) → eqb e.kind 1 ≡ a → eqb e.kind 2 ≡ b → ((u : List ℕ) → total keeps (operations es u) + number_of_chars (take (insert_bytes es) u) ≡ total gives_chars (operations es u))
        → (keeps (cond a (retain e.count) (cond b (insert (take e.count t)) (delete e.count))) + total keeps (operations es (cond b (drop e.count t) t))) + number_of_chars (take (cond b (e.count + insert_bytes es) (insert_bytes es)) t)
        ≡ gives_chars (cond a (retain e.count) (cond b (insert (take e.count t)) (delete e.count))) + total gives_chars (operations es (cond b (drop e.count t) t))
    go true true p q ih = absurd (omega (arith, eqb-true e.kind 1 p, eqb-true e.kind 2 q))
    go true false p q ih = omega (arith, ih t)
    go false true p q ih = omega (arith, ih (drop e.count t), chars_part e.count (insert_bytes es) t)
    go false false p q ih = omega (arith, ih t)

pub target_found : (r : List ℕ) → insert_bytes (entries r) ≡ text_bytes_of r → total keeps (byte_ops r) + number_of_chars (text_of r) ≡ total gives_chars (byte_ops r)
unfolding text_of byte_ops
target_found r e =
    let t = take (text_bytes_of r) (drop (start_of_text (op_count_of r)) r) in
    let z : take (insert_bytes (entries r)) t ≡ t = ap (λ n. take n t) e ∙ take-take (text_bytes_of r) (text_bytes_of r) (drop (start_of_text (op_count_of r)) r) (omega arith) in
    ap (λ l. total keeps (operations (entries r) t) + number_of_chars l) (sym z) ∙ kept_target (entries r) t

-- the whole record's
pub record Found (r : List ℕ) (q : Sums) : Type 0 where
  pub inserts : q.inserts ≡ insert_bytes (entries r)
  pub ordered : q.ordered ≡ chained (byte_ops r)
  pub base_is : q.base ≡ base (byte_ops r)
  pub target_is : insert_bytes (entries r) ≡ text_bytes_of r → q.kept + number_of_chars (text_of r) ≡ total gives_chars (byte_ops r)
  pub less : q.kept ≤ q.base

pub found : (r : List ℕ) → Found r (sums_of r)
unfolding sums_of
found r = record { inserts = refl; ordered = refl; base_is = refl; target_is = target_found r; less = keeps_less (byte_ops r) }
